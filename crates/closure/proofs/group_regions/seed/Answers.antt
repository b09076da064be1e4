-- The loop follows the chain of the group from its last line to its first. The invariant says that the region has only free seeds of lines
-- of the group, and all free seeds of its lines from `at` on, and that line `at` - 1 is one of them if there is one. A turn adds the free
-- seeds of this line and goes to the last line of the group before it, so it skips none (`IsLast`). A line that says `*` is what the
-- result false reports. At the end of the chain no line of the group comes earlier, so the seeds of all its lines are there.
use Rattle.std.proofs.{Common.◌∙◌, Common.arith}
use Rattle.std.proofs.lemmas.List.{get_or_default}
use Rattle.cellset.proofs.{Members.has_empty}
use Rattle.closure.proofs.group_regions.seed.Goals as goal

pub loop-at-init : goal.loop-at-init
loop-at-init c =
    let of = c.args.groups.now.of.items in
    let at = c.index.result.now in
    let chains = c.requires.groups.chained in
    let read = c.index.ensures ∙ get_or_default c.args.groups.now.chains.first.items c.args.group at 0 (omega arith) in
    let last = rw (← read) at (chains.lasts c.args.group c.requires.group) in
    let long = c.requires.groups.all.long in
    record {
      extent = c.requires.extent;
      last = (last.has_key, last.within);
      only = λ q h. absurd (has_empty q (rw c.requires.none at h));
      found = λ j from lt is. absurd (last.others j from (omega arith) is);
    }
