use Rattle.std.proofs.Common.{◌≡◌, ◌+◌, ◌++◌, ◌∙◌, ℕ, List, Some, ap, append_assoc, arith, codes, refl, sym}
use Rattle.std.specs.Prelude.{decimal}
use Rattle.arguments.specs.Command.{audit}
use Rattle.program.specs.Shelf.{file_of}
use Rattle.program.proofs.shelf.audit_in_memory.Goals as goal

-- the words of a line, and what comes before them
level_line : (n : ℕ) (words : List ℕ) → codes "level " ++ decimal n ++ codes " unsolvable " ++ words ≡ codes "level " ++ decimal n ++ codes " " ++ (codes "unsolvable " ++ words)
level_line n words =
    let level = codes "level " ++ decimal n in
    append_assoc level (codes " unsolvable ") words ∙ sym (append_assoc level (codes " ") (codes "unsolvable " ++ words))

pub returns : goal.returns
returns g c = record {
  unsolvable = λ less.
      let asked = audit (codes "levels") (codes "answers") in
      let asks = c.plain_words_ask.ensures _ asked (codes "sokoaudit", refl, λ e. absurd (omega (arith, e)), λ e. absurd (omega (arith, e))) in
      let (report, added, prints) = c.run.ensures.printed asked asks (refl, refl) less in (
        report,
        added,
        λ all before rows words are there line.
            c.printed_lines_are_true.ensures.unsolvable (file_of c.args.levels.now c.args.answers.now) (codes "levels") (codes "answers") report _ prints c.args.levels.now refl all are before rows words there
            (line ∙ ap Some (level_line (before + 1) words)),
      );
}
