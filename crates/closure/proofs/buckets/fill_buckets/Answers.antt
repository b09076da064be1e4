-- The invariant says that each group so far is in the bucket of one of its boxes. `smallest_bucket` returns the index of a box, and
-- which box that is doesn't matter to any proof. A group has a box (`listed_some` in `InBuckets.antt`), and its boxes lie on the grid, so their
-- indexes are within the table (`key_within`). After the loop every group has a key below the length of the table, so the groups can be
-- chained by their keys.
use Rattle.std.proofs.Common.{◌<◌, ◌+◌, length, slice_index, ◌∙◌, ap, arith}
use Rattle.cellset.specs.SortedList.{index}
use Rattle.closure.proofs.{Grouped.boxes_on, InBuckets.bucket_more, InBuckets.index_in, InBuckets.key_within, InBuckets.listed_some, Lists.length_more}
use Rattle.std.proofs.lemmas.List.{length-set}
use Rattle.closure.proofs.buckets.fill_buckets.Goals.{After-smallest_bucket-key}
use Rattle.closure.proofs.buckets.fill_buckets.Goals as goal

pub smallest_bucket-key-requires-clause-some : goal.smallest_bucket-key-requires-clause-some
smallest_bucket-key-requires-clause-some g c =
    let test = c.loop-group-test.true in
    let count = c.len-group-end.ensures in
    rw c.boxes.ensures (listed_some c.args.board.now c.args.groups.now c.requires.lawful c.requires.groups c.loop-group.group (omega arith))

pub smallest_bucket-key-requires-clause-on : goal.smallest_bucket-key-requires-clause-on
smallest_bucket-key-requires-clause-on g c = λ q has.
    let test = c.loop-group-test.true in
    let count = c.len-group-end.ensures in
    rw c.shape-shape.ensures.value (boxes_on c.args.board.now c.args.groups.now c.requires.lawful c.requires.groups c.loop-group.group (omega arith) _ c.boxes.ensures q has)

-- the index of the bucket is within the table of sizes
key_low : (g : _) (c : After-smallest_bucket-key g) → c.smallest_bucket-key.result < length c.loop-group.sizes.items
key_low g c =
    let box = c.smallest_bucket-key.ensures in
    let test = c.loop-group-test.true in
    let count = c.len-group-end.ensures in
    let low = index_in c.args.board.now c.args.groups.now c.requires.lawful c.requires.groups c.loop-group.group (omega arith) box.0 (rw c.boxes.ensures at box.1) in
    let key = box.2 ∙ ap (λ e. index e box.0) c.shape-shape.ensures.value in
    let sizes = c.loop-group.invariant.sizes in
    grind arith

pub index-requires : goal.index-requires
index-requires g c = rw c.loop-group.sizes.ok.0 (key_low g (goal.at.index-requires g c).After-smallest_bucket-key)

pub index_mut-requires : goal.index_mut-requires
index_mut-requires g c = rw c.loop-group.sizes.ok.0 (key_low g (goal.at.index_mut-requires g c).After-smallest_bucket-key)

pub chain-requires : goal.chain-requires
chain-requires g c = λ j lt.
    let inv = c.loop-group.invariant in
    let test = c.loop-group-test.false in
    let count = c.len-group-end.ensures in
    let keys = c.deref-2.ensures.value in
    let long = inv.long in
    let end = c.loop-group.auto.group-end in
    let keys_long = ap (λ l. length l) keys in
    let low : j < c.loop-group.group = omega arith in
    let within = key_within c.args.board.now c.args.groups.now c.requires.lawful c.requires.groups j (omega arith) c.loop-group.keys.items (inv.each j low) in
    let key = ap (λ l. slice_index l j) keys in
    grind arith

pub push_reserved-requires : goal.push_reserved-requires
push_reserved-requires g c =
    let roomy = c.loop-group.invariant.roomy in
    let long = c.loop-group.invariant.long in
    let test = c.loop-group-test.true in
    let count = c.len-group-end.ensures in
    omega arith

pub loop-group-preserved : goal.loop-group-preserved
loop-group-preserved g c =
    let old = c.loop-group.invariant in
    let box = c.smallest_bucket-key.ensures in
    record {
      sizes = grind (arith, length-set);
      long = ap (λ l. length l) c.push_reserved.ensures.items ∙ length_more c.loop-group.keys.items _ ∙ ap (λ n. n + 1) old.long;
      roomy = rw c.push_reserved.ensures.capacity old.roomy;
      each = bucket_more c.args.board.now c.args.groups.now c.loop-group.keys.items _ c.loop-group.group _ old.long c.push_reserved.ensures.items old.each
          box.0 (rw (← c.boxes.ensures) box.1) (c.in_ok-to_u32.ensures.value ∙ box.2 ∙ ap (λ e. index e box.0) c.shape-shape.ensures.value);
    }
