-- The read fills the vector from byte `taken` on. So the vector is then its first `taken` bytes followed by the buffer of the read
-- (`text_is`). A slice that was lent comes back between the bytes before and after it, and none come after it here, because it goes to the
-- end and keeps its length (`written`). All clauses follow from this equation: the front is unchanged, the bytes that were read come right
-- after it, and the length is the one that `make_room` kept below the limit.
use Rattle.std.proofs.Common.{◌≡◌, ℕ, ◌-◌, ◌≤◌, List, [], ◌++◌, length, take, drop, sym, ap, subst, ◌∙◌, append-nil, arith}
use Rattle.std.proofs.lemmas.List.{drop_all, drop_at, length-append, length-drop, length-take, length-take-le, take-append-le, take_all}
use Rattle.std.specs.Io.KnownBytes.{Consumes}
use borrow.Rule.Slice.PartMut.{post_of}
use Rattle.devices.proofs.reading.pull_after.Given.{Over}
use Rattle.devices.proofs.reading.pull_after.Goals as goal
use Rattle.devices.proofs.reading.pull_after.Goals.{After-pull}

-- The text after a read that kept its first n bytes and replaced the others by these.
abbrev after_read : List ℕ → List ℕ → List ℕ → ℕ → ℕ → List ℕ
after_read xs old bytes n len = let whole = take n xs ++ (bytes ++ post_of n (length xs - n) xs) in take len (whole ++ drop (length whole) old)

written : (xs text before bytes : List ℕ) (n len : ℕ) → xs ≡ text → take n text ≡ take n before → n ≤ length before
    → length bytes ≡ length (take (length xs - n) (drop n xs)) → length xs ≡ len → after_read xs text bytes n len ≡ take n before ++ bytes
written xs text before bytes n len same front within long all =
    let first : take n xs ≡ take n before = ap (take n) same ∙ front in
    let size = length-take-le n before within in
    let fits : n ≤ length xs = omega (arith, ap length first, length-take n xs) in
    let rest = drop (length xs - n) (drop n xs) in
    let none : rest ≡ [] = drop_all (length xs - n) (drop n xs) (omega (arith, length-drop n xs)) in
    let is : take n xs ++ (bytes ++ rest) ≡ take n before ++ bytes = ap (λ l. take n xs ++ (bytes ++ l)) none ∙ ap (λ l. take n xs ++ l) (append-nil bytes) ∙
    ap (λ l. l ++ bytes) first in
    let whole : length (take n xs ++ (bytes ++ rest)) ≡ len =
    ap length is ∙ omega (arith, length-append (take n before) bytes, length-take (length xs - n) (drop n xs), length-drop n xs) in
    take-append-le len (take n xs ++ (bytes ++ rest)) _ (omega arith) ∙ take_all len (take n xs ++ (bytes ++ rest)) (omega arith) ∙ is

text_is : (g : Over) (c : After-pull g)
    → after_read c.deref_mut.result.now c.make_room.new.text.items c.pull.new.buffer c.args.taken c.make_room.new.text.len ≡ take c.args.taken
    c.args.text.now.items ++ c.pull.new.buffer
text_is g c = grind (arith, written)

front : (before bytes : List ℕ) (n : ℕ) → n ≤ length before → take n (take n before ++ bytes) ≡ take n before
front before bytes n within = grind (arith, length-take-le, take-append-le, take_all)

pub returns-in-Ok-clause-front : goal.returns-in-Ok-clause-front
returns-in-Ok-clause-front g c = ap (take c.args.taken) (text_is g (goal.at.returns-in-Ok-clause-front g c).After-pull) ∙
    front c.args.text.now.items c.pull.new.buffer c.args.taken c.requires.within

pub returns-in-Ok-clause-fits : goal.returns-in-Ok-clause-fits
returns-in-Ok-clause-fits g c = grind (arith, text_is, length-append, length-take-le)

pub returns-in-Ok-clause-bytes : goal.returns-in-Ok-clause-bytes
returns-in-Ok-clause-bytes g c =
    let text = c.args.text.now.items in
    let n = c.args.taken in
    let new = ap (drop n) (text_is g (goal.at.returns-in-Ok-clause-bytes g c).After-pull) ∙
    drop_at (take n text) c.pull.new.buffer n (length-take-le n text c.requires.within) in
    subst (λ l. Consumes (g.L.Source.left c.args.source.now) (g.L.Source.left c.pull.new.self) (take c.in-Ok.count l)) (sym new) c.in-Ok.ensures.bytes.0

pub returns-in-Err-clause-front : goal.returns-in-Err-clause-front
returns-in-Err-clause-front g c = ap (take c.args.taken) (text_is g (goal.at.returns-in-Err-clause-front g c).After-pull) ∙
    front c.args.text.now.items c.pull.new.buffer c.args.taken c.requires.within

pub returns-in-Ok-clause-limit : goal.returns-in-Ok-clause-limit
returns-in-Ok-clause-limit g c =
    omega (arith, length-take {A = ℕ}, c.make_room.ensures.limit, c.deref_mut.ensures.len, ap length c.deref_mut.ensures.value)

pub returns-in-Err-clause-limit : goal.returns-in-Err-clause-limit
returns-in-Err-clause-limit g c = omega (arith, length-take {A = ℕ}, c.make_room.ensures.limit, c.deref_mut.ensures.len, ap length c.deref_mut.ensures.value)

pub slice_bounds-pull-count : goal.slice_bounds-pull-count
slice_bounds-pull-count g c =
    let text = c.make_room.new.text.items in
    let before = c.args.text.now.items in
    omega (arith, ap length c.make_room.ensures.front, length-take c.args.taken text, length-take c.args.taken before, ap length c.deref_mut.ensures.value)
