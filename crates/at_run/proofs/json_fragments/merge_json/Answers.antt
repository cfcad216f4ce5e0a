-- The merged fragment of a file of GeoJSON, from what is merged of its text and the joined span of its valid bytes.
use Rattle.at_run.proofs.json_fragments.merge_json.Goals as goal

pub returns : goal.returns
returns c i j k n = (
  c.merge.ensures.union i j k (record { first = n.first; second = n.second; within = n.within; left = n.left.0; right = n.right.0 }),
  c.joined_span.ensures i j k (record { first = n.first; second = n.second; within = n.within; left = n.left.1; right = n.right.1 }),
)
