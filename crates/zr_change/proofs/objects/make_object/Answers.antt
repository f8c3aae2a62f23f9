use Rattle.std.proofs.Common.{rules, Bool, true, false, eqb, Option, Some, None, ◌∙◌, refl, sym, ap, ◌≡◌, ◌<◌, [], ◌∷◌, List, length, ℕ, arith}
use Rattle.std.specs.Prelude.{◌&&◌, if◌then◌else◌}
use Rattle.zr_bptr.specs.declared.Ptr.{Ptr}
use Rattle.zr_bptr.specs.declared.Ptr.TheVariants.{Hole}
use Rattle.zr_txg.specs.Tables.{value_at}
use Rattle.zr_txg.specs.Changes.{changes_in, change_in}
use Rattle.zr_change.proofs.Grouping.{finds_of, lawful_from, set_lawful, nothing_at}
use Rattle.zr_change.proofs.objects.make_object.Goals as goal

pub returns-clause-lawful : goal.returns-clause-lawful
returns-clause-lawful c =
    let e = c.in_ok-record_object.ensures in
    let old = c.args.group.now in
    let new = c.record_object.new.self in
    lawful_from new c.look_over.ensures.objects c.look_over.ensures.blocks
    (set_lawful c.args.id (Some (record { units = c.args.units; tree = record { root = Hole; height = 0 } })) old new c.requires.id (search rules) e.objects e.blocks (finds_of old c.requires.lawful))

kept_if : (b : Bool) (c : Option Ptr) → (if b && false then None else c) ≡ c
kept_if true c = refl
kept_if false c = refl

empty_of : (xs : List (ℕ × Ptr)) → ¬ (0 < length xs) → xs ≡ []
empty_of [] none = refl
empty_of (x ∷ xs) none = absurd (none (omega arith))

pub returns-clause-blank : goal.returns-clause-blank
returns-clause-blank c =
    let id = c.args.id in
    let old = c.args.group.now in
    let none = sym c.changes.ensures.changes ∙ empty_of c.changes.result.now (λ some. c.requires.new (c.changes.ensures.recorded some)) in
    nothing_at (changes_in c.record_object.new.self id)
    (λ k. c.in_ok-record_object.ensures.blocks id k ∙ kept_if (eqb id id) (change_in old id k) ∙ ap (λ (xs : List (ℕ × Ptr)). value_at xs k) none)
