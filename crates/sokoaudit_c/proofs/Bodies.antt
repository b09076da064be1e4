-- The answers text around a body without a line `end` spells one record of level 1, so it has no fault.
-- Its lines are the header, the level line, the kind line, the lines of the body, and `end`. Whatever the lines of a body are, the grammar
-- reads something in them.
use Rattle.std.proofs.Common.{◌≡◌, ◌≢◌, ℕ, ◌+◌, ◌-◌, ◌==◌, Bool, true, false, cond, List, [], ◌∷◌, ◌++◌, length, map, drop, slice_index, refl, sym, ◌∙◌, ap, inr, arith, append_assoc, lit<, lit≤}
use Rattle.std.specs.Prelude.{codes, filter}
use Rattle.std.specs.List.{AllByRecursion, flat_map}
use Rattle.std.proofs.lemmas.List.{append-nil, map-append}
use Rattle.std.proofs.lemmas.List.Elements.{filter-append}
use Rattle.bstr.specs.Text.{lines_of, without_terminator}
use Rattle.bstr.proofs.lemmas.LineLemmas.{lines-append}
use Rattle.board.specs.Levels.{AreLevelsOf}
use Rattle.board.specs.Lines.{lines_in, without_mark}
use Rattle.answers.specs.Body.{Entry}
use Rattle.answers.specs.Canonical.{ended}
use Rattle.answers.specs.FirstFault.{IsFirstAnswersFault}
use Rattle.answers.specs.Grammar.{Line, NoneEnds, SpellsEntries, header_text, is_kept, kept_lines, level_text, numbered}
use Rattle.answers.specs.Reading.{after_lines, opened}
use Rattle.answers.specs.Records.{kind_line}
use Rattle.answers.specs.declared.fault.AnswersFault.{AnswersFault}
use Rattle.answers.specs.declared.record_text.Kind.{Kind}
use Rattle.answers.specs.declared.record_text.Kind.TheVariants.{Solution, Unsolvable}
use Rattle.answers.proofs.BodyLines.{body_says}
use Rattle.answers.proofs.KeptLines.{numbered-append}
use Rattle.answers.proofs.PlainLines.{IsPlainLine, ends_at, lines_again, plain_header, plain_level}
use Rattle.report.specs.Audit.{IsFirstError, answers_fault_of}
use Rattle.report.specs.declared.fault.AuditError.TheVariants.{Answers}
use Rattle.answers.specs.declared.fault.Why.{Why}
use Rattle.sokoaudit_c.specs.Judged.{HasLevels, NoneEndsIn, answers_around}

-- ---- the lines
abbrev head_lines : Kind → List (List ℕ)
head_lines k = header_text 2 ∷ level_text 1 ∷ kind_line k ∷ []

kind_plain : (k : Kind) → IsPlainLine (kind_line k)
kind_plain Solution = grind arith
kind_plain Unsolvable = grind arith

end_plain : IsPlainLine (codes "end")
end_plain = grind arith

abbrev head_of : Kind → List ℕ
head_of k = flat_map ended (head_lines k)

head_ends : (k : Kind) → slice_index (head_of k) (length (head_of k) - 1) ≡ 10
head_ends Solution = refl
head_ends Unsolvable = refl

-- after the kind line come the lines of the body, whose last one is ended, and then `end`
body_lines : (body : List ℕ) → lines_in ((body ++ 10 ∷ []) ++ codes "end\n") ≡ lines_in (body ++ 10 ∷ []) ++ codes "end" ∷ []
body_lines body =
    ap (map without_terminator) (lines-append (length (ended body)) (ended body) (codes "end\n") (omega arith) (inr (ends_at body)))
    ∙ map-append without_terminator (lines_of (ended body)) (lines_of (codes "end\n"))
    ∙ ap (λ (ls : List (List ℕ)). lines_in (ended body) ++ ls) (lines_again (codes "end" ∷ []) (end_plain, tt))

all_lines : (k : Kind) (body text : List ℕ) → text ≡ head_of k ++ ((body ++ 10 ∷ []) ++ codes "end\n")
    → lines_in text ≡ header_text 2 ∷ level_text 1 ∷ kind_line k ∷ (lines_in (body ++ 10 ∷ []) ++ codes "end" ∷ [])
all_lines k body text is =
    let rest = (body ++ 10 ∷ []) ++ codes "end\n" in
    ap lines_in is ∙ ap (map without_terminator) (lines-append (length (head_of k)) (head_of k) rest (omega arith) (inr (head_ends k)))
    ∙ map-append without_terminator (lines_of (head_of k)) (lines_of rest)
    ∙ ap (λ (ls : List (List ℕ)). ls ++ lines_in rest) (lines_again (head_lines k) (plain_header 2, (plain_level 1, (kind_plain k, tt))))
    ∙ ap (λ (ls : List (List ℕ)). header_text 2 ∷ level_text 1 ∷ kind_line k ∷ ls) (body_lines body)

-- ---- the record
abbrev line_at : ℕ → List ℕ → Line
line_at n text = record { number = n; text = text }

-- none of the kept lines of a body is `end`, if none of its lines is
go_on : (n : ℕ) (texts : List (List ℕ)) → AllByRecursion (λ l. l ≢ codes "end") texts → NoneEnds (filter is_kept (numbered n texts))
go_on n [] h = tt
go_on n (t ∷ ts) h = elim (is_kept (line_at n t))
    as (λ (v : Bool). NoneEnds (cond v (line_at n t ∷ filter is_kept (numbered (n + 1) ts)) (filter is_kept (numbered (n + 1) ts))))
    [ true ↦ (h.0, go_on (n + 1) ts h.1) | false ↦ go_on (n + 1) ts h.1 ]

kept_head : (k : Kind) (texts : List (List ℕ)) → filter is_kept (numbered 2 (level_text 1 ∷ kind_line k ∷ texts)) ≡ line_at 2 (level_text 1)
    ∷ line_at 3 (kind_line k) ∷ filter is_kept (numbered 4 texts)
kept_head Solution texts = refl
kept_head Unsolvable texts = refl

spells_record : (k : Kind) (body text : List ℕ) → NoneEndsIn body → text ≡ head_of k ++ ((body ++ 10 ∷ []) ++ codes "end\n")
    → (entry : Entry) × SpellsEntries text 1 (entry ∷ [])
spells_record k body text none is =
    let texts = lines_in (body ++ 10 ∷ []) in
    let lines = filter is_kept (numbered 4 texts) in
    let last = line_at (4 + length texts) (codes "end") in
    let all = all_lines k body text is in
    let kept : kept_lines text ≡ line_at 2 (level_text 1) ∷ line_at 3 (kind_line k) ∷ (lines ++ last ∷ []) =
    ap (λ (ls : List (List ℕ)). filter is_kept (drop 1 (numbered 1 ls))) all ∙ kept_head k (texts ++ codes "end" ∷ [])
    ∙ ap (λ (ls : List Line). line_at 2 (level_text 1) ∷ line_at 3 (kind_line k) ∷ filter is_kept ls) (numbered-append 4 texts (codes "end" ∷ []))
    ∙ ap (λ (ls : List Line). line_at 2 (level_text 1) ∷ line_at 3 (kind_line k) ∷ ls) (filter-append is_kept (numbered 4 texts) (last ∷ [])) in
    let block = line_at 2 (level_text 1) ∷ line_at 3 (kind_line k) ∷ (lines ++ last ∷ []) in
    let said = after_lines 2 (opened k) lines in (
      record { level = 1; body = said },
      record {
        version = 2;
        header = record { known = inr refl; others = level_text 1 ∷ kind_line k ∷ (texts ++ codes "end" ∷ []); first = all };
        blocks = (
          block,
          [],
          kept ∙ sym (append-nil block),
          record {
            level = line_at 2 (level_text 1);
            kind = line_at 3 (kind_line k);
            lines = lines;
            last = last;
            split = refl;
            number = refl;
            says = body_says 2 k lines;
            goes_on = go_on 4 texts none;
            ends = refl;
          },
          refl,
        );
        rise = (lit< tt, lit≤ tt, tt);
      },
    )

joined : (head body : List ℕ) → (head ++ body) ++ codes "\nend\n" ≡ head ++ ((body ++ 10 ∷ []) ++ codes "end\n")
joined head body = append_assoc head body (codes "\nend\n") ∙ ap (λ (r : List ℕ). head ++ r) (sym (append_assoc body (10 ∷ []) (codes "end\n")))

-- the text around a body spells a record for level 1, by the two cases of its kind line
spells_by : (b : Bool) (body : List ℕ) → NoneEndsIn body
    → (entry : Entry) × SpellsEntries (codes "sokoban-answers 2\nlevel 1\n" ++ cond b (codes "solution\n") (codes "unsolvable\n") ++ body ++ codes "\nend\n")
    1 (entry ∷ [])
spells_by true body none = spells_record Solution body _ none (joined (head_of Solution) body)
spells_by false body none = spells_record Unsolvable body _ none (joined (head_of Unsolvable) body)

-- ---- no fault
pub no_fault : ((levels others : List (List (List ℕ))) (lines : List (List ℕ)) → AreLevelsOf levels lines → AreLevelsOf others lines → levels ≡ others)
    → ((text : List ℕ) (levels : ℕ) (entries : List Entry) (fault : AnswersFault) → SpellsEntries text levels entries
    → IsFirstAnswersFault text levels fault → ⊥)
    → (level : List ℕ) (kind : ℕ) (body : List ℕ) (line : ℕ) (why : Why) → NoneEndsIn body → HasLevels level 1
    → IsFirstError level (answers_around kind body) (Answers line why) → ⊥
no_fault one refused level kind body line why none (levels, are, count) (short, error) =
    let (others, they, few, fault) = error in
    let number : length others ≡ 1 = ap length (one others levels (lines_in (without_mark level)) they are) ∙ count in
    let (entry, spells) = spells_by (kind == 1) body none in
    refused (answers_around kind body) 1 (entry ∷ []) (answers_fault_of line why) spells (rw number at fault)
