-- The faults of lines and of files of lines: of one line, of joined lists, and that there are no others.
-- For `answer`.
use Rattle.std.proofs.Common.{◌≡◌, ℕ, inl, inr, List, [], ◌∷◌, ◌++◌, Option, Some, None, refl, sym, ◌∙◌, ap, subst, append-nil, append_assoc}
use Rattle.at_text.specs.declared.faults.Fault.{Fault}
use Rattle.at_text.specs.Faults.{first_fault, first_of}
use Rattle.at_fixed.specs.declared.rounding.Coords.{Coords}
use Rattle.at_wkt.specs.Meaning.{faults_of}
use Rattle.at_wkt.specs.Lines.{FileLine, lines_of}
use Rattle.at_text.proofs.FaultOrder.{first_of-append}
use Rattle.at_wkt.proofs.OneFile.{one_syntax_fault}
use Rattle.at_run.specs.Labels.{LabelledLine}
use Rattle.at_run.specs.LineFaults.{HasFaults, HaveFaults, HasLinesFaultBehind}
use Rattle.at_run.specs.Gathering.{IsFirstOfLines}
use Rattle.at_run.proofs.LabelledLines.{one_labelled}

module _ (digits : ℕ) (how : Coords) where
  one_line_faults : (l : FileLine) (fs gs : List Fault) → HasFaults digits how l fs → HasFaults digits how l gs → fs ≡ gs
  one_line_faults l fs gs (inl (f, p, e)) (inl (g, q, k)) = e ∙ (ap (λ z. z ∷ []) (one_syntax_fault (LabelledLine l.at) l.at l.text f g p q) ∙ sym k)
  one_line_faults l fs gs (inl (f, p, e)) (inr (m, h, q, k)) = absurd (p.no_word (m, h, q))
  one_line_faults l fs gs (inr (m, g, p, e)) (inl (f, q, k)) = absurd (q.no_word (m, g, p))
  one_line_faults l fs gs (inr (m, g, p, e)) (inr (n, h, q, k)) = e ∙ (ap (faults_of digits how) (one_labelled l.at l.text m n g h p q).1 ∙ sym k)

  one_faults : (ls : List FileLine) (fs gs : List Fault) → HaveFaults digits how ls fs → HaveFaults digits how ls gs → fs ≡ gs
  one_faults [] fs gs p q = p ∙ sym q
  one_faults (l ∷ ls) fs gs (f, more, p, ps, e) (g, others, q, qs, k) = e ∙ (ap (λ z. z ++ more) (one_line_faults l f g p q) ∙ (ap (λ z. g ++ z) (one_faults ls more others ps qs) ∙ sym k))

  -- a file has at most one first fault, or none, and not both
  pub one_behind : (encoding : Option Fault) (bytes : List ℕ) (f g : Option Fault) → HasLinesFaultBehind digits how encoding bytes f → HasLinesFaultBehind digits how encoding bytes g → f ≡ g
  one_behind (Some fault) bytes f g p q = p ∙ sym q
  one_behind None bytes f g (fs, p, e) (gs, q, k) = e ∙ (ap first_of (one_faults (lines_of bytes) fs gs p q) ∙ sym k)

  -- ---- the first fault of lines

  first_by : (ls : List FileLine) (fs : List Fault) → HaveFaults digits how ls fs → IsFirstOfLines digits how ls (first_of fs)
  first_by ls fs h = record { faults = fs; have = h; first_is = refl; only = λ others o. ap first_of (one_faults ls others fs o h) }

  -- of one line with these faults
  pub first_one : (l : FileLine) (fs : List Fault) (first : Option Fault) → HasFaults digits how l fs → first ≡ first_of fs → IsFirstOfLines digits how (l ∷ []) first
  first_one l fs first h e = subst (IsFirstOfLines digits how (l ∷ [])) (sym e) (first_by (l ∷ []) fs (fs, [], h, refl, sym (append-nil fs)))

  have_more : (ls ms : List FileLine) (fs gs : List Fault) → HaveFaults digits how ls fs → HaveFaults digits how ms gs → HaveFaults digits how (ls ++ ms) (fs ++ gs)
  have_more [] ms fs gs e h = rw e h
  have_more (l ∷ ls) ms fs gs (first, others, hf, ho, e) h = (first, others ++ gs, hf, have_more ls ms others gs ho h, ap (λ z. z ++ gs) e ∙ append_assoc first others gs)

  pub first_joined : (ls ms : List FileLine) (a b c : Option Fault) → IsFirstOfLines digits how ls a → IsFirstOfLines digits how ms b → c ≡ first_fault a b → IsFirstOfLines digits how (ls ++ ms) c
  first_joined ls ms a b c h k e =
      let first : c ≡ first_of (h.faults ++ k.faults) = e ∙ (ap (λ z. first_fault z b) h.first_is ∙ (ap (first_fault (first_of h.faults)) k.first_is ∙ sym (first_of-append h.faults k.faults))) in
      subst (IsFirstOfLines digits how (ls ++ ms)) (sym first) (first_by (ls ++ ms) (h.faults ++ k.faults) (have_more ls ms h.faults k.faults h.have k.have))
