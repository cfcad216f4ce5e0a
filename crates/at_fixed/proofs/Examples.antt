-- Worked values, computed.
use Rattle.std.proofs.Common.{◌≡◌, ℕ, pos, negsuc, List, [], Some, None, Ok, Err, codes, refl}
use Rattle.std.specs.Fmt.{digits}
use Rattle.at_fixed.specs.declared.rounding.Coords.TheVariants.{Exact, Round}
use Rattle.at_fixed.specs.declared.rounding.FixedFault.TheVariants.{Scale, Range}
use Rattle.at_fixed.specs.Numerals.{Numeral, numeral_text}
use Rattle.at_fixed.specs.Fixed.{fixed_of, written}

abbrev plain : List ℕ → List ℕ → Numeral
plain whole fraction = record { sign = []; whole = whole; fraction = Some fraction; exponent = None }

abbrev power : List ℕ → List ℕ → List ℕ → Numeral
power sign whole digits = record { sign = sign; whole = whole; fraction = None; exponent = Some (record { letter = 0x65; sign = codes "-"; digits = digits }) }

abbrev upper : List ℕ → List ℕ → Numeral
upper whole digits = record { sign = []; whole = whole; fraction = None; exponent = Some (record { letter = 0x65; sign = []; digits = digits }) }

spelled : numeral_text (power (codes "-") (codes "25") (codes "8")) ≡ codes "-25e-8"
spelled = refl

values : (fixed_of (plain (codes "1") (codes "5")) 7 Exact ≡ Ok (pos 15000000))
    × (fixed_of (power [] (codes "1") (codes "7")) 7 Exact ≡ Ok (pos 1))
    × (fixed_of (power [] (codes "15") (codes "8")) 7 Exact ≡ Err Scale)
    × (fixed_of (power [] (codes "15") (codes "8")) 7 Round ≡ Ok (pos 2))
    × (fixed_of (power [] (codes "25") (codes "8")) 7 Round ≡ Ok (pos 2))
    × (fixed_of (power (codes "-") (codes "25") (codes "8")) 7 Round ≡ Ok (negsuc 1))
    × (fixed_of (power [] (codes "1") (codes "99")) 7 Exact ≡ Err Scale)
    × (fixed_of (power [] (codes "1") (codes "99")) 7 Round ≡ Ok (pos 0))
    × (fixed_of (upper (codes "0") (codes "999999999999")) 7 Exact ≡ Ok (pos 0))
    × (fixed_of (upper (codes "3") (codes "7")) 7 Exact ≡ Ok (pos 300000000000000))
    × (fixed_of (plain (codes "30000000") (codes "00000005")) 7 Exact ≡ Err Range)
    × (fixed_of (plain (codes "30000000") (codes "00000005")) 7 Round ≡ Ok (pos 300000000000000))
    × (fixed_of (plain (codes "30000000") (codes "00000015")) 7 Round ≡ Err Range)
    × (fixed_of (upper (codes "1") (codes "99")) 7 Round ≡ Err Range)
values = (refl, refl, refl, refl, refl, refl, refl, refl, refl, refl, refl, refl, refl, refl)

texts : (written (negsuc 4999999) 7 ≡ codes "-0.5000000") × (written (pos 0) 7 ≡ codes "0.0000000")
unfolding digits
texts = (refl, refl)
