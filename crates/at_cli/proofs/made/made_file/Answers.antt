use Rattle.std.proofs.Common.{ℕ, ◌^◌, ◌≤◌, List, length, sym, subst}
use Rattle.at_cli.proofs.MadeSizes.{wkt_short, geojson_short}
use Rattle.at_cli.proofs.made.made_file.Goals as goal

abbrev IsShort : List ℕ → Type 0
IsShort w = length w ≤ 2 ^ 28

pub returns-in_ok-geojson_text-in-Some-clause-short : goal.returns-in_ok-geojson_text-in-Some-clause-short
returns-in_ok-geojson_text-in-Some-clause-short c = subst IsShort (sym c.in_ok-geojson_text-in-Some.ensures) (geojson_short c.made_count.result c.made_count.ensures.most)

pub returns-in_ok-wkt_text-in-Some-squares-clause-short : goal.returns-in_ok-wkt_text-in-Some-squares-clause-short
returns-in_ok-wkt_text-in-Some-squares-clause-short c = subst IsShort (sym c.in_ok-wkt_text-in-Some-squares.ensures) (wkt_short c.made_count-in-Some-squares.result c.made_count-in-Some-squares.ensures.most)
