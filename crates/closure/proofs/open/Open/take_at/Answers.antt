use Rattle.std.proofs.Common.{◌≡◌, ◌-◌, ◌<◌, length, get_or, sym, subst, arith}
use Rattle.std.specs.List.{Contains}
use Rattle.closure.proofs.Taken.{taken_before, taken_kept, taken_only}
use Rattle.closure.proofs.Numbers.{kept_number, numbered_less, taken_alone}
use Rattle.closure.proofs.open.Open.take_at.Goals.{After-self-1}
use Rattle.closure.proofs.open.Open.take_at.Goals as goal

within : (c : After-self-1) → c.args.number < length c.self.inside.pushes.items
within c = subst (λ v. c.args.number < length v.pushes) (sym c.self.view_is) c.requires

last_is : (c : After-self-1) → c.index-last.result.now ≡ get_or c.self.inside.pushes.items (length c.self.inside.pushes.items - 1) c.index-last.result.now
last_is c = grind arith

pub invariant_of-self : goal.invariant_of-self
invariant_of-self c =
    let o = c.self.inside in
    let taken = c.swap_remove-taken.ensures in
    let value = kept_number o.shape o.pushes.items o.numbers.items c.self.invariant c.args.number c.swap_remove-taken.result c.index-last.result.now (within c) taken.value (last_is c) c.swap_remove-taken.new.self.items taken.items
    c.key_of-key.result c.index.result.now c.key_of-key.ensures.value c.index.ensures in
    rw value (numbered_less o.shape o.pushes.items o.numbers.items c.self.invariant c.args.number c.swap_remove-taken.result c.index-last.result.now (within c) taken.value (last_is c) c.swap_remove-taken.new.self.items taken.items
    c.key_of.result c.key_of.ensures.value)

pub returns-clause-none : goal.returns-clause-none
returns-clause-none c =
    let o = c.self.inside in
    let taken = c.swap_remove-taken.ensures in
    taken_alone o.shape o.pushes.items o.numbers.items c.self.invariant c.args.number c.swap_remove-taken.result c.index-last.result.now (within c) taken.value (last_is c) c.swap_remove-taken.new.self.items taken.items

pub returns-clause-kept : goal.returns-clause-kept
returns-clause-kept c =
    let o = c.self.inside in
    let taken = c.swap_remove-taken.ensures in
    λ p has. taken_kept o.pushes.items c.swap_remove-taken.new.self.items c.args.number c.swap_remove-taken.result (within c) taken.value taken.items p
    (subst (λ v. Contains v.pushes p) (sym c.self.view_is) has)

pub returns-clause-only : goal.returns-clause-only
returns-clause-only c =
    let o = c.self.inside in
    let taken = c.swap_remove-taken.ensures in
    λ p has. subst (λ v. Contains v.pushes p) c.self.view_is
    (taken_only o.pushes.items c.swap_remove-taken.new.self.items c.args.number c.swap_remove-taken.result (within c) taken.value taken.items p has)

pub returns-clause-before : goal.returns-clause-before
returns-clause-before c =
    let o = c.self.inside in
    λ i p low. subst (λ v. get_or c.swap_remove-taken.new.self.items i p ≡ get_or v.pushes i p) c.self.view_is
    (taken_before o.pushes.items c.swap_remove-taken.new.self.items c.args.number i c.swap_remove-taken.result p (within c) low c.swap_remove-taken.ensures.items)
