use Rattle.std.proofs.lemmas.List.{append_assoc}
use Rattle.std.proofs.lemmas.Result.{IfOk-equal}
use Rattle.report.proofs.line.push_status.Goals as goal

pub returns-in-Unsolvable : goal.returns-in-Unsolvable
returns-in-Unsolvable c = record { ok = rw c.in-Unsolvable.is c.push_number-in-Unsolvable.ensures.ok }

pub returns-in-UnsolvableZone : goal.returns-in-UnsolvableZone
returns-in-UnsolvableZone c = record { ok = rw c.in-UnsolvableZone.is c.push_number-in-UnsolvableZone.ensures.ok }

pub returns-in_ok-extend_from_slice-in-Refused : goal.returns-in_ok-extend_from_slice-in-Refused
returns-in_ok-extend_from_slice-in-Refused c = record {
  ok = rw c.in-Refused.is (IfOk-equal _ _ _ _ c.push_refusal.ensures.ok (rw c.in_ok-extend_from_slice-in-Refused.ensures.items (simp append_assoc)));
}

pub returns-in_ok-push_number-in-Solved-2 : goal.returns-in_ok-push_number-in-Solved-2
returns-in_ok-push_number-in-Solved-2 c = record {
  ok = rw c.in-Solved.is (IfOk-equal _ _ _ _ c.push_number-in-Solved-2.ensures.ok
      (rw (c.in_ok-push_number-in-Solved-2.ensures.ok, c.in_ok-push_number-in-Solved.ensures.ok) (simp append_assoc)));
}
