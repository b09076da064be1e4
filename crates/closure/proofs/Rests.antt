-- What is left of the pushes out of the group that was settled last: if nothing is, the list covers them.
use Rattle.std.proofs.Common.{◌≡◌, true, ℕ, sym, arith}
use Rattle.std.{specs.Prelude.◌==◌, specs.Prelude.Some, proofs.lemmas.Bool.eqb-true}
use Rattle.cellset.proofs.Truth.{either}
use Rattle.certificates.specs.Pattern.{CoversPushesOf}
use Rattle.closure.specs.{Groups.list_of, Groups.position_at, declared.tables.Tables.Tables}
use Rattle.closure.specs.{Checking.IsChecker, declared.checking.Checker.Checker}

pub none_rest : {S : Type 0} (tables : Tables S) (checker : Checker) → IsChecker tables checker → (g : ℕ) → checker.settled ≡ Some g
    → true ≡ (checker.lookups.left.len == 0) → CoversPushesOf tables.board.now (list_of tables.groups) (position_at tables.board.now tables.groups g)
none_rest tables checker is g settled none push out =
    let long = checker.lookups.left.ok.0 in
    let zero = eqb-true checker.lookups.left.len 0 (sym none) in
    either ((is.rest g settled).all push out) (λ listed. let low = listed.1 in absurd (omega arith)) (λ covered. covered)
