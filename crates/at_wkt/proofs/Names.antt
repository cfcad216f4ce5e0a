-- The words of the definitions that the proofs cite, passed on from one place. Declares nothing.
pub use Rattle.at_fixed.specs.NumberSoFar.{between}
pub use Rattle.at_fixed.specs.Numerals.{AreWktDigits, IsAtMostOneOf, IsWktNumeral, Numeral, WktNumber, exponent_text, fraction_text, numeral_text}
pub use Rattle.at_fixed.specs.declared.rounding.Coords.{Coords}
pub use Rattle.at_fixed.specs.declared.rounding.FixedFault.{FixedFault}
pub use Rattle.at_geom.specs.declared.positions.Pos.{Pos}
pub use Rattle.at_geom.specs.declared.shapes.Shape.{Shape}
pub use Rattle.at_text.specs.Faults.{comes_first, first_fault, first_of}
pub use Rattle.at_text.specs.Halts.{IfStopped}
pub use Rattle.at_text.specs.Parts.{AnyCase, Exactly, Many, OneOrMore, ◌▸◌}
pub use Rattle.at_text.specs.Syntax.{IsSyntaxFault, stop_fault}
pub use Rattle.at_text.specs.Texts.{is_digit, is_one_of}
pub use Rattle.at_text.specs.declared.faults.Fault.{Fault}
pub use Rattle.at_text.specs.declared.halts.Halt.{Halt}
pub use Rattle.at_text.specs.declared.texts.Span.{Span}
pub use Rattle.at_wkt.specs.Answers.{HasFaultOrShape, HasFirstLineFault, HasLineShape, IsPrefixFault, IsPrefixOf, SpellsLine, faulty, unspelled}
pub use Rattle.at_wkt.specs.Geometry.{EmptyOrParted, EmptyWord, Geometries, Geometry, InBrackets, IsLineOf, Letter, Parted, SpellsArea, SpellsFurther, SpellsFurtherGeometries, SpellsGeometry, SpellsList, SpellsNumber, SpellsPoint, SpellsPointMember, SpellsPosition, SpellsRing, WktLine, collection, geometry_and, is_blank, line_string, multi_line_string, multi_point, multi_polygon, no_geometries, point, polygon}
pub use Rattle.at_wkt.specs.Lines.{FileLine, is_line_feed, pieces_from, without_return}
pub use Rattle.at_geom.specs.Shapes.{empty_shape}
pub use Rattle.at_wkt.specs.Meaning.{faults_of, faults_of_area, polygons_of, shape_of}
pub use Rattle.at_wkt.specs.Positions.{Position, Positions, faults_in, faults_of_line, faults_of_ring, path_of, pos_of, position_faults, value_in}
pub use Rattle.at_wkt.specs.Readers.{After, Allows, Body, BodyStands, Delimiter, DelimiterBreaks, DelimiterStands, EnclosedPosition, Expected, FurtherNumbers, FurtherThen, Gathers, Grows, HasCount, HeadStands, Item, ItemStands, Items, ItemsRead, ItemsSoFar, KeywordBreaks, KeywordStands, KindBreaks, KindsTried, Leads, LetterStands, Matches, Meaning, NumberBreaks, NumberSkips, NumberStands, PartStands, PositionStands, PositionsSoFar, Reaches, SkipsBlanks, Spelt, Stuck, added_line, added_path, added_point, added_position, allows, allows_more, delimiter, ends_same, fault_of_path, faults_of_path, gathered_shape, is_delimiter, joined, line_faults, meaning_of, next, no_meaning, none_kept, opens, point_faults, word_of}
pub use Rattle.at_wkt.specs.declared.answers.Prefix.{Prefix}
pub use Rattle.at_wkt.specs.declared.line.dimension.Dimension.{Dimension}
pub use Rattle.at_wkt.specs.declared.line.dimension.Dimension.TheVariants.{Fixed, Open}
pub use Rattle.at_wkt.specs.declared.line.geometries.Gathered.{Gathered}
pub use Rattle.at_wkt.specs.declared.line.kinds.Head.{Head}
pub use Rattle.at_wkt.specs.declared.line.kinds.Kind.{Kind}
pub use Rattle.at_wkt.specs.declared.line.kinds.Kind.TheVariants.{GeometryCollection, LineString, MultiLineString, MultiPoint, MultiPolygon, Point, Polygon}
pub use Rattle.at_wkt.specs.declared.line.parts.ItemRead.{ItemRead}
pub use Rattle.at_wkt.specs.declared.line.parts.Read.{Read}
pub use Rattle.at_wkt.specs.declared.line.paths.Role.{Role}
pub use Rattle.at_wkt.specs.declared.line.paths.Role.TheVariants.{Line, Ring}
pub use Rattle.at_wkt.specs.declared.line.positions.NumbersRead.{NumbersRead}
pub use Rattle.at_wkt.specs.declared.line.positions.PositionRead.{PositionRead}
pub use Rattle.at_wkt.specs.declared.line.sources.Rules.{Rules}
