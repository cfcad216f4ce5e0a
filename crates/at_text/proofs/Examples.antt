-- Worked values, computed.
use Rattle.std.proofs.Common.{◌≡◌, [], ◌∷◌, ◌++◌, Some, codes, refl}
use Rattle.std.specs.Str.{is_utf8, chars}
use Rattle.std.specs.Str.Lossy.{utf8_valid_len}
use Rattle.std.specs.Char.{encode_utf8}
use Rattle.at_text.specs.declared.faults.FaultKind.TheVariants.{NotUtf8, Syntax, Twin, Form, Short, Ring, Scale}
use Rattle.at_text.specs.Faults.{fault_at, first_fault, first_of}
use Rattle.at_text.specs.Texts.{utf8_fault, base_of}

syntax_first : first_fault (Some (fault_at Scale 3)) (Some (fault_at Syntax 50)) ≡ Some (fault_at Syntax 50)
syntax_first = refl

twin_first : first_fault (Some (fault_at Twin 7)) (Some (fault_at Form 0)) ≡ Some (fault_at Twin 7)
twin_first = refl

lesser_offset : first_fault (Some (fault_at Scale 10)) (Some (fault_at Ring 9)) ≡ Some (fault_at Ring 9)
lesser_offset = refl

lesser_number : first_of (fault_at Ring 9 ∷ fault_at Short 9 ∷ fault_at Ring 8 ∷ []) ≡ Some (fault_at Ring 8)
lesser_number = refl

same_place : first_fault (Some (fault_at Ring 9)) (Some (fault_at Short 9)) ≡ Some (fault_at Short 9)
same_place = refl

stray_byte : utf8_fault (codes "{}x       " ++ 0xFF ∷ []) ≡ Some (fault_at NotUtf8 10)
unfolding utf8_valid_len is_utf8 chars encode_utf8
stray_byte = refl

stray_after_mark : utf8_fault (0xEF ∷ 0xBB ∷ 0xBF ∷ [] ++ codes "{}x       " ++ 0xFF ∷ []) ≡ Some (fault_at NotUtf8 13)
unfolding utf8_valid_len is_utf8 chars encode_utf8
stray_after_mark = refl

mark : base_of (0xEF ∷ 0xBB ∷ 0xBF ∷ 0x7B ∷ []) ≡ 3
mark = refl
