-- There is just one push of a box in a direction. One to the trap is settled.
use Rattle.std.proofs.Common.{sym, ◌∙◌, subst, inl, inr}
use Rattle.std.proofs.lemmas.Bool.{false≢true}
use Rattle.cellset.{specs.CellSet.Lacks, proofs.Members.lacks_where, proofs.Truth.either}
use Rattle.closure.specs.{GroupPushes.pushed_cell, Groups.position_at, Settling.IsPushOut}
use Rattle.closure.proofs.GroupPushes.{same_push}
use Rattle.closure.proofs.OpenPushes.{open_on, open_step, toward_trap_settled}
use Rattle.closure.proofs.unsettled.Unsettled.open_toward.Goals as goal

pub add-requires : goal.add-requires
add-requires g c =
    let task = c.args.task.now in
    let out = rw c.requires.group at c.in-Some.ensures.out in
    record { on = rw c.requires.away.extent (open_on task c.requires.task c.in-Some.push out); step = open_step task c.requires.task c.in-Some.push out }

pub returns-in_default-clause-all : goal.returns-in_default-clause-all
returns-in_default-clause-all g c = λ push out from toward. absurd ((rw c.requires.group at c.in_default.ensures) push out from toward)

pub returns-then-is_on_trap-clause-all : goal.returns-then-is_on_trap-clause-all
returns-then-is_on_trap-clause-all g c = λ push out from toward.
    inr (toward_trap_settled c.args.task.now c.requires.task (pushed_cell c.args.pushed.now) c.args.dir c.in-Some.push push (rw c.requires.group at c.in-Some.ensures)
    (c.is_on_trap.ensures.0 c.if-is_on_trap.true) out from toward)

pub returns-clause-away : goal.returns-clause-away
returns-clause-away g c =
    let task = c.args.task.now in
    let off = lacks_where task.tables.now.trap.members c.in-Some.push.to (λ has. false≢true (sym c.if-is_on_trap.false ∙ c.is_on_trap.ensures.1 has)) in
    record {
      extent = c.in_ok-add.ensures.extent ∙ c.requires.away.extent;
      out = λ push has. either (c.in_ok-add.ensures.only push has) (c.requires.away.out push)
          (λ is. subst (λ q. IsPushOut task q × Lacks task.tables.now.trap.members q.to) (sym is) (rw c.requires.group at c.in-Some.ensures.out, off));
    }

pub returns-clause-all : goal.returns-clause-all
returns-clause-all g c =
    let task = c.args.task.now in
    let level = task.tables.now.board.now in
    let groups = task.tables.now.groups in
    λ push out from toward.
    let same = same_push level (position_at level groups task.group) (pushed_cell c.args.pushed.now) c.args.dir c.in-Some.push (rw c.requires.group at c.in-Some.ensures) push out from toward in
    inl (rw same c.in_ok-add.ensures.added)
