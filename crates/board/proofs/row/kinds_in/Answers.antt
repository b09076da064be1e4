use Rattle.std.proofs.Common.{get_or, refl, ◌∙◌, arith}
use Rattle.std.proofs.lemmas.Nat.{or_lt}
use Rattle.board.proofs.RowBytes.{first_feed}
use Rattle.board.proofs.row.kinds_in.Goals as goal

pub returns : goal.returns
returns c =
    let found = first_feed (λ k. get_or c.args.block k 0) c.equal_to.result _ refl (or_lt 64 _ _ c.equal_to.type_inv (omega arith)) c.equal_to.ensures.inside in
    record {
      within = found.0;
      before = found.1;
      feed = found.2;
      wall = record { inside = λ k low. c.first_bits.ensures.inside k low ∙ c.walls_in.ensures.inside k (omega (arith, found.0)); outside = λ k past _. c.first_bits.ensures.outside k past };
      goal = record { inside = λ k low. c.first_bits-2.ensures.inside k low ∙ c.goals_in.ensures k (omega (arith, found.0)); outside = λ k past _. c.first_bits-2.ensures.outside k past };
      box = record { inside = λ k low. c.first_bits-3.ensures.inside k low ∙ c.boxes_in.ensures k (omega (arith, found.0)); outside = λ k past _. c.first_bits-3.ensures.outside k past };
      player = record { inside = λ k low. c.first_bits-4.ensures.inside k low ∙ c.players_in.ensures k (omega (arith, found.0)); outside = λ k past _. c.first_bits-4.ensures.outside k past };
    }
