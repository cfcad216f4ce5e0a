use Rattle.std.proofs.Common.{◌≡◌, ◌≢◌, ◌+◌, ◌≤◌, ◌^◌, ◌⊎◌, List, ℕ, map, string_bytes, inl, inr, sym, subst, ◌∙◌, arith}
use Rattle.at_cli.specs.declared.words.line.Line.{Line}
use Rattle.at_cli.specs.declared.outcome.ending.Ending.{Ending}
use Rattle.at_cli.specs.Texts.{memory_line}
use Rattle.at_cli.specs.Outcomes.{HasOutcome, TheOutcome, AreRefused, AreAccepted}
use Rattle.at_cli.specs.Failures.{asked_names, ShelfFailedOn}
use Rattle.at_cli.specs.Telling.{WasTold}
use Rattle.at_cli.specs.Endings.{status_of, text_of, line_of, Ends}
use Rattle.at_cli.specs.Loading.{Leads, PassesLoaded}
use Rattle.at_cli.proofs.Loads.{on_end, passes_said}
use Rattle.at_cli.proofs.Runs.{told_answer, told_line, told_prefix_of, told_refusal, told_complete, is_no_answer, own_status, as_told, answered_status, told_small, line_of_memory}
use Rattle.at_cli.proofs.OneOutcome.{ends_only}
use Rattle.at_cli.proofs.outcome.run.top.Goals.{in-None, in-Some}
use Rattle.at_cli.proofs.outcome.run.top.Goals as goal

pub returns : goal.returns
returns g c =
    let o = g.S.Shelf in
    let before = c.args.shelf.now in
    let after = c.load-loaded.new.shelf in
    let words = map string_bytes c.args.words.now in
    let files = o.files before in
    let given_up = g.G.Gate.given_up c.args.gate.now in
    let loaded = c.load-loaded.result in
    let said = c.load-loaded.ensures in
    let ending = c.match-chunk_size.ending in
    let L : Ending → Type 0 = λ end. Leads loaded end in
    let P : Ending → Type 0 = λ end. status_of end ≡ 0 → PassesLoaded given_up loaded in
    let leads : L ending = elim c.match-chunk_size.branch [
      | in-None w ↦ subst L (sym w.ending-is) w.end_in_blocks-ending.ensures.leads
      | in-Some w ↦ subst L (sym w.ending-is) w.end_in_chunks-ending.ensures.leads
    ] in
    let passed : P ending = elim c.match-chunk_size.branch [
      | in-None w ↦ subst P (sym w.ending-is) w.end_in_blocks-ending.ensures.passes
      | in-Some w ↦ subst P (sym w.ending-is) w.end_in_chunks-ending.ensures.passes
    ] in
    let told = c.tell.ensures in
    let status = c.tell.result in
    let own = status_of ending in
    let ends = on_end loaded (Ends (HasOutcome words) files) ending said.outcome leads in
    let only = ends_only words files ending ends in
    record {
      status = told_small ending status told.status;
      answered = λ zero. (text_of ending, (told.answered zero).0, (told.answered zero).1, told.empty zero, told_answer (TheOutcome words) files ending status only told.status zero);
      unfailed = told.unfailed;
      passes = λ h. passes_said words given_up loaded said.says (passed (answered_status ending status told.status h));
      stopped = λ h. let (n0, n4) = is_no_answer status h in (line_of ending, (told.told n0 n4).1, told_line (TheOutcome words) files ending status only told.status h);
      too_large = λ six. on_end loaded (λ end. status_of end ≡ 6 → o.taken before + (2 ^ 28 + 1) ≤ o.taken after) ending said.large leads (own_status status own 6 told.status six (λ z. omega (arith, z)));
      refused = λ two.
          let own_two = own_status status own 2 told.status two (λ z. omega (arith, z)) in (
            line_of ending,
            on_end loaded (λ end. status_of end ≡ 2 → AreRefused words (line_of end)) ending said.refused leads own_two,
            on_end loaded (λ end. status_of end ≡ 2 → after ≡ before) ending said.untouched leads own_two,
            (told.told (λ z. omega (arith, two, z)) (λ z. omega (arith, two, z))).1,
          );
      refuses = λ refusal h. told_refusal status own told.status (on_end loaded (λ end. (status_of end ≡ 2) ⊎ (status_of end ≡ 5)) ending (said.refuses refusal h) leads);
      usage = λ none. as_told status own 2 told.status (on_end loaded (λ end. status_of end ≡ 2) ending (said.usage none) leads) (λ z. omega (arith, z));
      read_failed = λ three.
          let F : Ending → Type 0 = λ end. (line : Line) × AreAccepted words line × ShelfFailedOn o (asked_names line) (line_of end) before after in
          let (line, accepted, failed) = on_end loaded (λ end. status_of end ≡ 3 → F end) ending said.failed leads (own_status status own 3 told.status three (λ z. omega (arith, z))) in
          (line, accepted, (line_of ending, failed, (told.told (λ z. omega (arith, three, z)) (λ z. omega (arith, three, z))).1));
      unbroken = elim (on_end loaded (λ end. (status_of end ≡ 3) ⊎ (o.broken after ≡ o.broken before)) ending said.unbroken leads) [
        | inl three ↦ inl (as_told status own 3 told.status three (λ z. omega (arith, z)))
        | inr same ↦ inr same
      ];
      write_failed = λ four. let (rose, kept, tells) = told.write_failed four in (text_of ending, rose, kept, tells, told_prefix_of (TheOutcome words) files ending status only told.status four);
      no_memory = λ five.
          let tells = (told.told (λ z. omega (arith, five, z)) (λ z. omega (arith, five, z))).1 in
          let W : List ℕ → Type 0 = λ line. WasTold g.E.Sink c.args.err.now c.tell.new.err line in
          subst W (line_of_memory ending (own_status status own 5 told.status five (λ z. omega (arith, z)))) tells;
      same_out = λ n0 n4. (told.told n0 n4).0;
      asked = said.asked;
      same_files = said.same_files;
      complete = told_complete (TheOutcome words) files ending status only told.status;
    }
