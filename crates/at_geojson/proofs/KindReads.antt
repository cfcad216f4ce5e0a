-- Short strings of ASCII without escapes as values: the names of kinds, and texts for which tests ask. For `items` and `value`.
use Rattle.std.proofs.Common.{◌≡◌, ℕ, ◌+◌, ◌-◌, ◌≤◌, List, None, take, drop, length, refl, sym, ◌∙◌, ap}
use Rattle.at_fixed.specs.NumberSoFar.{between}
use Rattle.at_lex.specs.Spans.{AreSpaces}
use Rattle.at_scan.specs.declared.known_names.KindRead.{KindRead}
use Rattle.at_scan.specs.declared.short_texts.SimpleItem.{SimpleItem}
use Rattle.at_scan.specs.Names.{kind_of_text}
use Rattle.at_scan.specs.Places.{IsSimpleItem}
use Rattle.at_scan.specs.KnownNames.{IsKindName}
use Rattle.at_scan.proofs.SimpleTexts.{plain_text_is}
use Rattle.at_query.specs.Keeping.{Asked}
use Rattle.at_geojson.specs.declared.atoms.atom.GeoAtom.{GeoAtom}
use Rattle.at_geojson.specs.Atoms.{twin_of, as_kind, as_text, asked_units}
use Rattle.at_geojson.specs.Values.{IsItem}
use Rattle.at_geojson.specs.PlainGeometries.{IsKindRead}
use Rattle.at_geojson.proofs.ValueParts.{text_kind, text_units, text_whole, item_read}

-- the atom of a kind's name
pub kind_named : (asked : Asked) (base : ℕ) (w : List ℕ) (at first : ℕ) (p : KindRead) (end : ℕ) → at ≤ first → AreSpaces (between w at first) → IsKindName w first p → p.end ≤ end → end ≤ length w → AreSpaces (between w p.end end)
    → IsKindRead asked base w at (record { end = end; kind = p.kind })
kind_named asked base w at first p end before spaces h behind fits more =
    let ((order, within, (cs, ok, e)), simple) = h.text in
    let whole = text_whole asked base w first p.end order within cs ok e in
    let item = item_read asked base w at first end (record { end = p.end; atom = text_kind asked (base + first) cs }) before spaces whole behind fits more in
    let plain = plain_text_is w (record { first = first; end = p.end; colon = 0 }) h.text.0 simple in
    record { atom = text_kind asked (base + first) cs; item = item; no_twin = refl; kind = ap kind_of_text (sym (plain.units cs ok e)) ∙ h.kind }

-- the atom of a short string of ASCII without escapes
pub simple_read : (asked : Asked) (base : ℕ) (w : List ℕ) (at : ℕ) (p : SimpleItem) → IsSimpleItem w at p
    → (a : GeoAtom) × IsItem asked base w at (record { end = p.end; atom = a }) × (twin_of a ≡ None)
    × (as_kind a ≡ kind_of_text (take (p.last - 1 - (p.first + 1)) (drop (p.first + 1) w)))
    × (as_text a ≡ asked_units asked.query.tests (take (p.last - 1 - (p.first + 1)) (drop (p.first + 1) w)))
simple_read asked base w at p h =
    let ((order, within, (cs, ok, e)), simple) = h.text in
    let whole = text_whole asked base w p.first p.last order within cs ok e in
    let item = item_read asked base w at p.first p.end (record { end = p.last; atom = text_kind asked (base + p.first) cs }) h.before h.spaces whole h.behind h.within h.more_spaces in
    let plain = plain_text_is w (record { first = p.first; end = p.last; colon = 0 }) h.text.0 simple in
    let same = sym (plain.units cs ok e) in
    (text_kind asked (base + p.first) cs, item, refl, ap kind_of_text same, text_units asked (base + p.first) cs ∙ ap (asked_units asked.query.tests) same)
