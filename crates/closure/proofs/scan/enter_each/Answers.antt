use Rattle.std.proofs.Common.{arith, ◌≡◌, length}
use Rattle.closure.{specs.Arena.list_in, proofs.Arenas.listed_at}
use Rattle.closure.proofs.Entries.{entries_more}
use Rattle.closure.proofs.scan.enter_each.Goals as goal

pub enter-requires : goal.enter-requires
enter-requires g c = record {
  lawful = rw c.pattern.ensures.pattern (c.requires _ (listed_at c.args.arena.now c.loop-line.line (omega arith)));
  free = c.loop-line.invariant.free;
  region = c.loop-line.invariant.region;
}

pub loop-line-preserved : goal.loop-line-preserved
loop-line-preserved g c =
    let old = c.loop-line.invariant in
    record {
      free = c.in_ok-enter.ensures.free;
      region = c.in_ok-enter.ensures.region;
      roomy = rw c.push_reserved.ensures.capacity old.roomy;
      entries = entries_more c.args.board.now (list_in c.args.arena.now) c.loop-line.line c.loop-line.entries.items _ c.in_ok-enter.field-0 old.entries
          c.push_reserved.ensures.items (rw c.pattern.ensures.pattern at c.in_ok-enter.ensures.ok);
    }

pub push_reserved-requires : goal.push_reserved-requires
push_reserved-requires g c =
    let roomy = c.loop-line.invariant.roomy in
    let count = c.loop-line.invariant.entries.long in
    let test = c.loop-line-test.true in
    let len = c.len-line-end.ensures in
    omega arith

pub returns : goal.returns
returns g c =
    let test = c.loop-line-test.false in
    let most = c.loop-line.auto.line-end in
    let len = c.len-line-end.ensures in
    let end : c.loop-line.line ≡ length c.args.arena.now.lines.items = omega arith in
    rw end at c.loop-line.invariant.entries
