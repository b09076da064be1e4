-- What is kept while pushes are settled. What a search and its groups leave open stays so when fewer pushes are unsettled.
use Rattle.std.proofs.Common.{◌≡◌, ◌⊎◌, ℕ, ◌<◌, ◌∙◌, List, length, ap, inl, inr, arith}
use Rattle.std.specs.List.{Contains}
use Rattle.cellset.{specs.CellSet.Has, specs.declared.cell.Cell.Cell, proofs.Truth.either}
use Rattle.cellset.specs.declared.dir.Dir.TheVariants.{L, U, R, D}
use Rattle.reach.specs.declared.pushes.Push.{Push}
use Rattle.certificates.specs.CellLists.{cells_in}
use Rattle.closure.specs.{Buckets.AreBuckets, Component.AreInComponent, Place.IsSubset, Run.state_after, Groups.position_at, Search.IsPassed, Search.IsSearch, Search.IsSearched}
use Rattle.closure.specs.Open.{OpenPushes}
use Rattle.closure.specs.Settling.{AreOpen, AreTaken, CoversNone, CoversNoneToward, HasAsked, IsOnward, IsSettled, IsSettling, IsTask}
use Rattle.closure.specs.declared.{buckets.Buckets.Buckets, task.Task.Task, unsettled.Unsettled.Unsettled}
use Rattle.closure.proofs.{Grouped.covered_by_group, OpenPushes.each_dir, OpenPushes.open_in, Settled.after_within}

module _ {S : Type 0} (task : Task S) (buckets : Buckets) (old new : Unsettled) (was : IsSettling task buckets old)
    (away : (push : Push) → Contains new.away.pushes push → Contains old.away.pushes push ⊎ Contains old.here.pushes push)
    (here : (push : Push) → Contains new.here.pushes push → Contains old.away.pushes push ⊎ Contains old.here.pushes push)
    (extents : (new.away.extent ≡ old.away.extent) × (new.here.extent ≡ old.here.extent)) where
  -- The search went on.
  pub settling_next : new.search.cells ≡ old.search.cells → IsSearch task.tables.now.board.now.shape task.tables.now.groups buckets new.search
      → ((g : ℕ) → Contains new.inside.items g → IsSubset task.tables.now.groups (cells_in task.boxes.now) g)
      → ((g : ℕ) → Contains old.inside.items g → Contains new.inside.items g)
      → ((g : ℕ) → g < length task.tables.now.groups.spans.items → IsPassed task.tables.now.board.now.shape buckets new.search g
      → IsPassed task.tables.now.board.now.shape buckets old.search g
      ⊎ (Contains new.inside.items g ⊎ (CoversNone task g new.away.pushes × CoversNone task g new.here.pushes))) → IsSettling task buckets new
  settling_next cells search inside kept passed = record {
    away = record { extent = extents.0 ∙ was.away.extent; out = λ push has. either (away push has) (was.away.out push) (was.here.out push) };
    here = record { extent = extents.1 ∙ was.here.extent; out = λ push has. either (here push has) (was.away.out push) (was.here.out push) };
    search = search;
    boxes_searched = λ c has. rw cells (was.boxes_searched c has);
    away_searched = λ push has. rw cells (either (away push has) (was.away_searched push) (was.here_searched push));
    here_searched = λ push has. rw cells (either (here push has) (was.away_searched push) (was.here_searched push));
    inside = inside;
    asked = λ g lt now. either (passed g lt now)
        (λ before. either (was.asked g lt before) (λ found. inl (kept g found)) (λ none.
        inr (λ push has. either (away push has) (none.0 push) (none.1 push), λ push has. either (here push has) (none.0 push) (none.1 push))))
        (λ rest. rest);
  }

  -- The search stayed.
  pub settling_same : new.search ≡ old.search → new.inside ≡ old.inside → IsSettling task buckets new
  settling_same search inside = settling_next (ap (λ s. s.cells) search) (rw search was.search) (λ g has. was.inside g (rw inside at has))
      (λ g has. rw inside has) (λ g lt now. inl (rw search at now))

module _ {S : Type 0} (task : Task S) where
  -- ---- pushes that were taken out
  pub taken_none : (pushes : OpenPushes) → AreTaken task pushes pushes
  taken_none pushes = grind arith

  pub taken_on : (first second third : OpenPushes) → AreTaken task first second → AreTaken task second third → AreTaken task first third
  taken_on first second third one two = record {
    extent = two.extent ∙ one.extent;
    kept = λ push was. either (one.kept push was) (two.kept push) inr;
    only = λ push has. one.only push (two.only push has);
    fewer = (let first = one.fewer in let second = two.fewer in omega arith);
  }

  -- Fewer pushes are open.
  pub open_less : (old new : OpenPushes) → AreOpen task old → AreTaken task old new → AreOpen task new
  open_less old new are taken = record { extent = taken.extent ∙ are.extent; out = λ push has. are.out push (taken.only push has) }

  pub asked_on : (first old new : Unsettled) → HasAsked task first old → HasAsked task old new → HasAsked task first new
  asked_on first old new one two = search (taken_on)

  -- A group covers the result of no push if it covers none in each direction.
  pub none_each_way : (g : ℕ) (pushes : List Push) → CoversNoneToward task g L pushes → CoversNoneToward task g U pushes → CoversNoneToward task g R pushes
      → CoversNoneToward task g D pushes → CoversNone task g pushes
  none_each_way g pushes l u r d push has covers =
      each_dir ⊥ push.dir (λ e. l push has e covers) (λ e. u push has e covers) (λ e. r push has e covers) (λ e. d push has e covers)

  pub component_less : (place : Cell) (old new : List Push) → AreInComponent task.tables.now.board.now (cells_in task.boxes.now) place old
      → ((push : Push) → Contains new push → Contains old push) → AreInComponent task.tables.now.board.now (cells_in task.boxes.now) place new
  component_less place old new was only = grind arith

  -- ---- settling on
  module _ (buckets : Buckets) where
    pub onward_on : (first old new : Unsettled) → IsOnward task buckets first old → IsOnward task buckets old new → IsOnward task buckets first new
    onward_on first old new one two = search (taken_on)

    pub onward_asked : (old new : Unsettled) → IsSettling task buckets old → HasAsked task old new → IsOnward task buckets old new
    onward_asked old new was now = record {
      settling = settling_same task buckets old new was (λ push has. inl (now.away.only push has)) (λ push has. inr (now.here.only push has)) (now.away.extent, now.here.extent) now.search now.inside;
      away = now.away;
      here = now.here;
    }

    -- Once all groups were asked, no push that is left here is settled.
    pub none_settled : IsTask task → AreBuckets task.tables.now.board.now task.tables.now.groups buckets → (u : Unsettled) → IsSettling task buckets u
        → IsSearched task.tables.now.board.now.shape task.tables.now.groups buckets u.search
        → ((g : ℕ) → Contains u.inside.items g → CoversNone task g u.here.pushes)
        → (push : Push) → Contains u.here.pushes push → IsSettled task push → ⊥
    none_settled is are u settling searched none push has settled =
        let groups = task.tables.now.groups in
        let level = task.tables.now.board.now in
        let found = covered_by_group level groups is.tables.grouped (state_after (cells_in task.boxes.now) push) settled in
        let g = found.0 in
        let lt = found.1.0 in
        let bucket = are.each g lt in
        let within = open_in task is push (settling.here.out push has).0 in
        let there : Has (cells_in u.search.cells.items) bucket.cell = either
        (after_within level (cells_in task.boxes.now) push within.move (position_at level groups g) found.1.1 bucket.cell bucket.has)
        (λ box. settling.boxes_searched bucket.cell box) (λ same. rw same (settling.here_searched push has)) in
        either (settling.asked g lt (searched g bucket.cell lt there bucket.key)) (λ inside. none g inside push has found.1) (λ nothing. nothing.1 push has found.1)
