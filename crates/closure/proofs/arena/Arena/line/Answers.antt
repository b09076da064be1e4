use Rattle.std.proofs.Common.{◌≡◌, refl, sym, ◌∙◌, ap}
use Rattle.std.specs.Prelude.{Option, None, Some, List, map, option_map}
use Rattle.std.proofs.lemmas.List.{get_or_default}
use Rattle.cellset.specs.declared.cell.Cell.{Cell}
use Rattle.certificates.specs.Pattern.{listed, pattern_of, seeds_of}
use Rattle.closure.specs.{Arena.coord_of, Arena.line_at, Arena.line_in, Arena.seeds_within, Spans.part}
use Rattle.closure.{specs.declared.arena.Span.Span, proofs.Arenas.line_pattern, proofs.Arenas.same_cells, proofs.Spans.boxes_within}
use Rattle.closure.proofs.arena.Arena.line.Goals as goal

same_seeds : (seeds : List Cell) (span : Option Span) → seeds_within seeds span ≡ seeds_of (option_map (λ s. map coord_of (part seeds s)) span)
same_seeds seeds None = refl
same_seeds seeds (Some span) = ap listed (sym (same_cells (part seeds span)))

pub returns-clause-within : goal.returns-clause-within
returns-clause-within c =
    let line = c.index.result.now in
    record {
      boxes_in = boxes_within _ _ _ c.args.self.now.within line (c.args.line, c.requires, sym c.index.ensures);
      seeds_in = λ span is. c.args.self.now.within.seeds_in line span (c.args.line, c.requires, sym c.index.ensures) is;
    }

pub returns-clause-pattern : goal.returns-clause-pattern
returns-clause-pattern c =
    let arena = c.args.self.now in
    let line = c.index.result.now in
    let here : line_at arena c.args.line ≡ line = get_or_default arena.lines.items c.args.line _ _ c.requires ∙ sym c.index.ensures in
    (λ i. record { boxes = sym (same_cells (part arena.boxes.items line.boxes)) i; seeds = same_seeds arena.seeds.items line.seeds i }) ∙
    (ap (λ l. pattern_of (line_in arena.boxes.items arena.seeds.items l)) (sym here) ∙ sym (line_pattern arena c.args.line c.requires))
