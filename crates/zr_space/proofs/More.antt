-- A device more that is in service changes nothing of a removal.
use Rattle.std.proofs.Common.{◌≡◌, ℕ, ◌+◌, true, false, List, [], ◌∷◌, ◌++◌, length, refl, ◌∙◌, sym, ap, arith}
use Rattle.std.proofs.lemmas.List.Sums.{sum_by-cons}
use Rattle.zr_base.specs.declared.space.DevRow.{DevRow}
use Rattle.zr_base.specs.declared.space.DevState.TheVariants.{On, Leaving, Gone}
use Rattle.zr_rules.specs.Places.{is_leaving}
use Rattle.zr_indirect.specs.Mapped.{in_service}
use Rattle.zr_base.specs.declared.space.CondPart.{CondPart}
use Rattle.std.proofs.lemmas.List.Elements.{All-nil}
use Rattle.zr_space.specs.Views.{Kept, kept_of, synced_in, EndsWithin, IsMoved, IsCondensing}
use Rattle.zr_space.proofs.Turning.{none_beyond}
use Rattle.zr_space.proofs.Views.{on_all}

false_true : false ≡ true → ⊥
false_true e = cc

not_leaving : On ≡ Leaving → ⊥
not_leaving e = false_true (ap is_leaving e)

not_gone : On ≡ Gone → ⊥
not_gone e = cc

-- a device in service has nothing of it
pub service_moved : (r : DevRow) → r.state ≡ On → IsMoved r in_service
service_moved r on = record {
  state = rw on refl;
  service = λ is. refl;
  leaving = λ is. absurd (not_leaving (rw on at is));
  gone = λ is. absurd (not_gone (rw on at is));
  fresh = record { maximal = tt; within = tt };
  came = record { maximal = tt; within = tt };
  went = record { maximal = tt; within = tt };
  sources = All-nil (EndsWithin r.units);
}

pub single_last : (devs : List Kept) (k : Kept) → is_leaving k.row.state ≡ false → ((d e : ℕ) → is_leaving (kept_of devs d).row.state ≡ true → is_leaving (kept_of devs e).row.state ≡ true → d ≡ e)
    → (d e : ℕ) → is_leaving (kept_of (devs ++ k ∷ []) d).row.state ≡ true → is_leaving (kept_of (devs ++ k ∷ []) e).row.state ≡ true → d ≡ e
single_last devs k stays single =
    on_all devs k (λ d x. (e : ℕ) → is_leaving x.row.state ≡ true → is_leaving (kept_of (devs ++ k ∷ []) e).row.state ≡ true → d ≡ e)
    (λ e one. absurd (grind (arith, stays, one)))
    (λ d ne. on_all devs k (λ e y. is_leaving (kept_of devs d).row.state ≡ true → is_leaving y.row.state ≡ true → d ≡ e)
    (λ one two. absurd (grind (arith, stays, two)))
    (λ e ne2. single d e))

-- a mapping goes on being condensed
pub condensing_last : (c : CondPart) (devs : List Kept) (k : Kept) → IsCondensing c (kept_of devs c.dev) → IsCondensing c (kept_of (devs ++ k ∷ []) c.dev)
condensing_last c devs k =
    on_all devs k (λ j y. IsCondensing c (kept_of devs j) → IsCondensing c y)
    (λ h. absurd (not_gone (sym (ap (λ (x : Kept). x.row.state) (none_beyond devs (length devs) (omega arith))) ∙ h.gone)))
    (λ j ne h. h)
    c.dev

pub synced_last : (devs : List Kept) (k : Kept) → k.moves.synced ≡ 0 → synced_in (devs ++ k ∷ []) ≡ synced_in devs
synced_last [] k none = sum_by-cons (λ (x : Kept). x.moves.synced) k [] ∙ (let n = none in omega (arith, n))
synced_last (y ∷ ys) k none = sum_by-cons (λ (x : Kept). x.moves.synced) y (ys ++ k ∷ []) ∙ (ap (λ n. y.moves.synced + n) (synced_last ys k none) ∙ sym (sum_by-cons (λ (x : Kept). x.moves.synced) y ys))
