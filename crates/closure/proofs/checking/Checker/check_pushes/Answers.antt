-- The invariant says that the list covers the pushes out of each line so far. If it covers those out of a group, because its note says so, or a
-- box is on the trap, it covers those out of its lines (`pattern_of_group` in `GroupPushes.antt`). For any other line
-- `first_left` decides. If it returns a push, that is the line's first one whose result isn't covered, and the lines before it are fine, so it is
-- the first fault of the list (`FirstLines.antt`).
use Rattle.std.proofs.Common.{◌≡◌, ℕ, ◌+◌, ◌<◌, length, refl, sym, ◌∙◌, ap, arith}
use Rattle.std.{specs.Prelude.false, specs.Prelude.slice_index, proofs.lemmas.List.get_or-map, proofs.lemmas.List.length-map}
use Rattle.std.proofs.lemmas.List.{get_or_default}
use Rattle.answers.specs.Body.{PatternLine}
use Rattle.certificates.specs.Pattern.{CoversPushesOf, Pattern}
use Rattle.closure.specs.{Arena.line_at, Arena.line_in, Arena.lines_in, Arena.pattern_at, Groups.list_of, Groups.position_at}
use Rattle.closure.specs.FirstFault.{HasFirstUncovered}
use Rattle.closure.proofs.{Arenas.list_long, GroupPushes.pattern_of_group, GroupPushes.trapped_pushes}
use Rattle.closure.proofs.Numbered.{each_pattern, one_more}
use Rattle.closure.proofs.{FirstLines.first_line}
use Rattle.closure.proofs.checking.Checker.check_pushes.Goals.{After-index}
use Rattle.closure.proofs.checking.Checker.check_pushes.Goals as goal

-- ---- the line and its group
is_line : (g : _) (c : After-index g) → c.loop-line.line < length c.args.tables.now.groups.arena.lines.items
is_line g c = grind arith

of_line : (g : _) (c : After-index g) → c.index.result.now ≡ slice_index c.args.tables.now.groups.of.items c.loop-line.line
of_line g c = grind (arith, is_line, get_or_default)

is_group : (g : _) (c : After-index g) → c.index.result.now < length c.args.tables.now.groups.spans.items
is_group g c = rw (of_line g c) (c.requires.tables.grouped.all.into c.loop-line.line (is_line g c))

-- If the list covers the pushes out of the group, it covers those out of one line more.
one_line : (g : _) (c : After-index g) → CoversPushesOf c.args.tables.now.board.now (list_of c.args.tables.now.groups)
    (position_at c.args.tables.now.board.now c.args.tables.now.groups c.index.result.now) → (j : ℕ) → j < c.loop-line.line + 1
    → CoversPushesOf c.args.tables.now.board.now (list_of c.args.tables.now.groups) (pattern_at (list_of c.args.tables.now.groups) j)
one_line g c covers =
    let level = c.args.tables.now.board.now in
    let groups = c.args.tables.now.groups in
    one_more (λ (j : ℕ). CoversPushesOf level (list_of groups) (pattern_at (list_of groups) j)) c.loop-line.line c.loop-line.invariant.covered
    (pattern_of_group level groups c.requires.tables.grouped c.loop-line.line (is_line g c) (rw (of_line g c) at covers))

pub boxes-requires-clause-group : goal.boxes-requires-clause-group
boxes-requires-clause-group g c = is_group g (goal.at.boxes-requires-clause-group g c).After-index

pub settle-requires-clause-group : goal.settle-requires-clause-group
settle-requires-clause-group g c = is_group g (goal.at.settle-requires-clause-group g c).After-index

-- ---- each way on
pub loop-line-preserved-then-index : goal.loop-line-preserved-then-index
loop-line-preserved-then-index g c =
    let at = (goal.at.loop-line-preserved-then-index g c).After-index in
    let within = is_group g at in
    let notes = c.loop-line.self.covered.items in
    let noted = c.loop-line.invariant.checker.noted in
    let long = noted.long in
    let in_notes : c.index.result.now < length notes = omega arith in
    let here = get_or_default notes c.index.result.now false c.index-in-loop-line.result.now in_notes in
    record {
      checker = c.loop-line.invariant.checker;
      covered = one_line g at (noted.covers c.index.result.now in_notes (here ∙ (sym c.index-in-loop-line.ensures ∙ c.if-index.true)));
    }

pub loop-line-preserved-then-is_trapped : goal.loop-line-preserved-then-is_trapped
loop-line-preserved-then-is_trapped g c =
    let at = (goal.at.loop-line-preserved-then-is_trapped g c).After-index in
    let on = c.if-is_trapped.ensures in
    record {
      checker = c.loop-line.invariant.checker;
      covered = one_line g at (trapped_pushes c.args.tables.now c.requires.tables c.index.result.now (is_group g at) on.0 (rw c.boxes.ensures at on.1) on.2);
    }

pub loop-line-preserved : goal.loop-line-preserved
loop-line-preserved g c =
    let patterns = list_of c.args.tables.now.groups in
    let checker = c.in_ok-settle.ensures.checker in
    let tried = c.in_default.ensures in
    record {
      checker = record {
        noted = checker.noted;
        are = tried.are;
        free = λ h is. rw tried.free (checker.free h is);
        rest = λ h is. rw tried.left (checker.rest h is);
      };
      covered = one_more (λ (j : ℕ). CoversPushesOf c.args.tables.now.board.now patterns (pattern_at patterns j)) c.loop-line.line
          c.loop-line.invariant.covered tried.exact;
    }

pub returns-in-Some-clause-exact : goal.returns-in-Some-clause-exact
returns-in-Some-clause-exact g c = λ _.
    let level = c.args.tables.now.board.now in
    let arena = c.args.tables.now.groups.arena in
    let patterns = list_of c.args.tables.now.groups in
    let push = c.in-Some.push in
    let line = c.loop-line.line in
    let here = line_in arena.boxes.items arena.seeds.items in
    let Faulty = λ (p : Pattern). HasFirstUncovered level patterns p push.player push.dir in
    let read : PatternLine = here (line_at arena line) in
    let test = c.loop-line-test.true in
    let len = c.len-line-end.ensures in
    let within : line < length arena.lines.items = omega arith in
    let number = ap (λ l. l.line) (get_or-map here arena.lines.items line c.index-in-Some.result.now read within)
    ∙ ap (λ l. l.number) (sym c.index-in-Some.ensures) in
    let low : line < length (lines_in arena) = rw (length-map arena.lines.items here) within in (
      c.requires.tables.lawful,
      c.requires.start,
      rw number at (first_line (CoversPushesOf level patterns) Faulty (lines_in arena) line _ read low c.loop-line.invariant.covered
          (push, refl, refl, c.in-Some.ensures.exact)),
    )

pub returns-clause-ok : goal.returns-clause-ok
returns-clause-ok g c =
    let patterns = list_of c.args.tables.now.groups in
    let long = list_long c.args.tables.now.groups.arena in
    let end = c.loop-line-test.false in
    let len = c.len-line-end.ensures in
    record {
      lawful = c.requires.tables.lawful;
      start = c.requires.start;
      pushes = each_pattern (CoversPushesOf c.args.tables.now.board.now patterns) patterns c.loop-line.line _ (omega arith) c.loop-line.invariant.covered;
    }
