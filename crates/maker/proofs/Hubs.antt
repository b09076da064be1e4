-- What a hub links.
-- No push leaves a closed set. So if pushes lead from one cell to another, the second cell is in the reach of the first, and so is every cell
-- in the reach of the second.
use Rattle.std.proofs.Common.{◌≡◌, subst, sym, arith}
use Rattle.std.specs.Prelude.{◌↔◌}
use Rattle.cellset.specs.CellSet.{Cells, Has}
use Rattle.cellset.specs.declared.cell.Cell.{Cell}
use Rattle.cellset.specs.declared.dir.Dir.{Dir}
use Rattle.cellset.specs.Cell.{neighbor}
use Rattle.cellset.proofs.Members.{has_or_lacks}
use Rattle.reach.specs.Reached.{Reached, at_seed, by_step, PullsTo, PushesTo}
use Rattle.board.specs.Game.{Level}
use Rattle.board.specs.Board.{IsWellFormed}
use Rattle.certificates.specs.Zone.{IsClosedZone}
use Rattle.maker.specs.Dead.{IsRelaxedPush}
use Rattle.maker.specs.Matching.{InReach}

-- a relaxed push from a cell of a closed set leads to a cell of it
push_stays : (level : Level) (zone : Cells) (c : Cell) (d : Dir) → IsClosedZone level zone → IsRelaxedPush level c d → Has zone c → Has zone (neighbor c d)
push_stays level zone c d closed push inside = grind (arith, has_or_lacks)

module _ (level : Level) (formed : IsWellFormed level) where
  -- a push from a cell of a closed set leads to a cell of it
  pub pushed_inside : (zone : Cells) (b c : Cell) → IsClosedZone level zone → PushesTo (Has level.room) b c → Has zone b → Has zone c
  pushed_inside zone b c closed p inside = subst (Has zone) (sym p.next)
      (push_stays level zone b p.dir closed (record { player = p.behind; floor = rw p.next at (formed.room c p.ahead) }) inside)

  pulled_reach : (target : Cell → Type 0) (cell : Cell) → ((c : Cell) → target c → c ≡ cell)
      → (c : Cell) → Reached (PullsTo (Has level.room)) target c → InReach level c cell
  pulled_reach target cell is c (at_seed h) = rw (is c h) (λ zone closed inside. inside)
  pulled_reach target cell is c (by_step b before p) = λ zone closed h.
      pulled_reach target cell is b before zone closed
      (rw p.next (push_stays level zone c p.dir closed (record { player = p.behind; floor = rw p.next at (formed.room b p.ahead) }) h))

  pushed_reach : (source : Cell → Type 0) (cell : Cell) → ((c : Cell) → source c → c ≡ cell)
      → (c : Cell) → Reached (PushesTo (Has level.room)) source c → InReach level cell c
  pushed_reach source cell is c (at_seed h) = rw (is c h) (λ zone closed inside. inside)
  pushed_reach source cell is c (by_step b before p) = λ zone closed h.
      pushed_inside zone b c closed p (pushed_reach source cell is b before zone closed h)

  -- floods from and to a cell link what they find
  pub floods_link : (cell : Cell) (from to sources targets : Cells)
      → ((c : Cell) → Has from c ↔ (c ≡ cell)) → ((c : Cell) → Has targets c ↔ Reached (PushesTo (Has level.room)) (Has from) c)
      → ((c : Cell) → Has to c ↔ (c ≡ cell)) → ((c : Cell) → Has sources c ↔ Reached (PullsTo (Has level.room)) (Has to) c)
      → (b q : Cell) → Has sources b → Has targets q → InReach level b q
  floods_link cell from to sources targets is_from pushed is_to pulled b q source target = λ zone closed h.
      pushed_reach (Has from) cell (λ x h. (is_from x).0 h) q ((pushed q).0 target) zone closed
      (pulled_reach (Has to) cell (λ x h. (is_to x).0 h) b ((pulled b).0 source) zone closed h)
