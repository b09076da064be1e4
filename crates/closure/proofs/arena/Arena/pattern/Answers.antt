use Rattle.std.proofs.Common.{◌≡◌, refl}
use Rattle.closure.{specs.Arena.seeds_among, specs.Arena.seeds_within, proofs.arena.Arena.pattern.Goals.in-None, proofs.arena.Arena.pattern.Goals.in-Some}
use Rattle.closure.proofs.arena.Arena.pattern.Goals as goal

pub returns-clause-pattern : goal.returns-clause-pattern
returns-clause-pattern c =
    let seeds : seeds_among c.match-line.seeds ≡ seeds_within c.args.self.now.seeds.items c.line-line.result.seeds =
    elim c.match-line.branch [
      | in-Some w ↦ rw (w.seeds-is, w.in-Some.is, w.part.ensures, w.deref.ensures.value) refl
      | in-None w ↦ rw (w.seeds-is, w.in-None.is) refl
    ] in
    rw (c.part-2.ensures, c.deref-2.ensures.value, seeds) c.line-line.ensures.pattern
