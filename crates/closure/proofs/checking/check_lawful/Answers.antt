use Rattle.std.proofs.{Common.◌≡◌, Common.ℕ, Common.List, Common.length, Common.refl, Common.sym, Common.◌∙◌, Common.inl, lemmas.Bool.false≢true, lemmas.List.length-map}
use Rattle.std.proofs.lemmas.Result.{err_from_is_err_and}
use Rattle.cellset.specs.{CellSet.CellsOn, CellSet.Has, declared.cell.Cell.Cell}
use Rattle.board.specs.{Board.IsWellFormed, Game.Level}
use Rattle.certificates.specs.Pattern.{AreLawful, Pattern}
use Rattle.closure.specs.{Arena.list_in, Arena.lines_in, declared.arena.Arena.Arena, Trap.AreTrapped, Trap.IsTrapOf}
use Rattle.certificates.specs.Closed.{Closed}
use Rattle.closure.proofs.{Grouped.region_in_room, Traps.start_trapped, Traps.trapped_push}
use Rattle.closure.proofs.checking.check_lawful.Goals as goal

-- A list whose patterns are all trapped is closed if a box of the start is on the trap.
closed_trapped : (level : Level) → IsWellFormed level → (patterns : List Pattern) (trap : CellsOn) → IsTrapOf level patterns trap →
    AreLawful level patterns → (c : Cell) → Has trap.members c → Has level.boxes c → AreTrapped trap.members patterns → Closed level patterns
closed_trapped level formed patterns trap is lawful c has box all = record {
  lawful = lawful;
  start = start_trapped level formed patterns trap is c has box;
  pushes = λ p listed push out.
      let fair = lawful p listed in
      let trapped = all p listed in
      trapped_push level formed patterns trap is p (λ q named. (fair.board q (inl named), fair.wall q named)) (region_in_room level formed p fair) push out
      trapped.0 trapped.1 trapped.2;
}

-- the number of lines that are kept is the number of lines
counted : (arena : Arena) → {n : ℕ} → n ≡ arena.lines.len → n ≡ length (lines_in arena)
counted arena is = is ∙ (arena.lines.ok.0 ∙ sym (length-map arena.lines.items _))

pub returns-then-meets-clause-ok : goal.returns-then-meets-clause-ok
returns-then-meets-clause-ok g c =
    let met = c.if-meets.ensures in (
      closed_trapped c.args.board.now c.shape.ensures.formed (list_in c.args.arena) c.find_trap.new.trap c.in_ok-are_trapped.ensures.trap c.requires
          met.0 met.2 (rw c.boxes.ensures.members at met.1) (c.in_ok-are_trapped.ensures.all c.if-are_trapped.true),
      counted c.args.arena c.len-patterns.ensures,
    )

pub returns-then-not-covers_start-clause-exact : goal.returns-then-not-covers_start-clause-exact
returns-then-not-covers_start-clause-exact g c = λ _.
    let are = c.in_ok-tables.ensures in
    (rw (are.level, are.same) at are.tables.lawful, λ covered. false≢true (c.if-not-covers_start.ensures.1 (rw (are.level, are.same) covered)))

pub first_fault-requires : goal.first_fault-requires
first_fault-requires g c = record { tables = c.in_ok-tables.ensures.tables; start = c.if-not-covers_start.ensures.0 refl }

pub returns-in_err-first_fault-clause-exact : goal.returns-in_err-first_fault-clause-exact
returns-in_err-first_fault-clause-exact g c =
    let are = c.in_ok-tables.ensures in
    let returned = err_from_is_err_and c.from_residual-in_err-first_fault.result c.from_residual-in_err-first_fault.ensures.1 in
    rw (returned.1, returned.2) (rw (are.level, are.same) at c.in_err-first_fault.ensures.exact)

pub returns-clause-ok : goal.returns-clause-ok
returns-clause-ok g c =
    let are = c.in_ok-tables.ensures in
    (rw (are.level, are.same) at c.in_ok-first_fault.ensures.ok, counted c.args.arena c.len-patterns.ensures)
