use Rattle.std.proofs.Common.{inr}
use Rattle.closure.proofs.lawful.why_unlawful.Goals as goal

pub are_in-requires : goal.are_in-requires
are_in-requires g c = λ q seed.
    rw c.room.ensures.extent (c.requires.on q (inr (rw c.in-Some.is (rw (c.part-seeds.ensures, c.deref-in-Some.ensures.value) at seed))))
