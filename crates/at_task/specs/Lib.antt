-- What public contracts say: a reader has to believe these.
pub mod Ends
pub mod SlicedChunks
pub mod FeedEnds
pub mod Feeds
-- What private contracts say.
pub mod Ranking
pub mod FileEnds
pub mod PairEnds
pub mod Keeping
pub mod Stages
pub mod Waiting
pub mod JoinFeeds
