-- What the change of one device's units does to the roles, and what it leaves as it was.
use Rattle.std.proofs.Common.{◌≡◌, ℕ, zero, suc, ◌+◌, ◌<◌, true, false, ◌==◌, List, [], ◌∷◌, ◌++◌, map, length, refl, ◌∙◌, sym, ap, subst, arith, if◌then◌else◌}
use Rattle.std.proofs.Math.ListN.{set}
use Rattle.std.proofs.lemmas.Bool.Decides.{nat_tests}
use Rattle.std.proofs.lemmas.List.{length-map, length-set}
use Rattle.zr_base.specs.declared.space.Dva.{Dva}
use Rattle.zr_base.specs.declared.space.DevPart.{DevPart}
use Rattle.zr_base.specs.Extents.{has_unit, in_extent}
use Rattle.zr_rules.specs.Places.{part_of, in_address}
use Rattle.zr_rules.specs.Roles.{Role}
use Rattle.zr_rules.specs.Space.{role_at}
use Rattle.zr_rules.specs.Frees.{IsSamePart, IsSameFrame, MarksNothing}
use Rattle.zr_metaslab.specs.Devices.{Devices, extent_of}
use Rattle.zr_units.specs.Uses.{Uses, IsSameUses}
use Rattle.zr_indirect.specs.Mapped.{Mapped}
use Rattle.zr_indirect.specs.Changes.{was_fresh_in}
use Rattle.std.proofs.lemmas.List.Sums.{sum_by-cons}
use Rattle.zr_space.specs.Views.{Kept, kept_of, part_in, opened_in, space_of, synced_in, role_in, IsSpace, meta_from, saved_from, addresses, late_runs}
use Rattle.zr_space.proofs.Views.{part_is}
use Rattle.zr_space.proofs.Roles.{roles_are}
use Rattle.zr_space.proofs.Keeps.{lawful, on_each}
use Rattle.zr_space.proofs.Rooted.{SameUses, same_root}
use Rattle.zr_space.specs.declared.whole.Whole.{Whole}

pub meta_set : (k d : ℕ) (devs : List Kept) (x : Kept) → x.uses.meta ≡ (kept_of devs d).uses.meta → meta_from k (set devs d x) ≡ meta_from k devs
meta_set k zero [] x same = refl
meta_set k (suc d) [] x same = refl
meta_set k zero (y ∷ ys) x same = ap (λ es. addresses k es ++ meta_from (k + 1) ys) same
meta_set k (suc d) (y ∷ ys) x same = ap (λ list. addresses k y.uses.meta ++ list) (meta_set (k + 1) d ys x same)

pub saved_set : (k d : ℕ) (devs : List Kept) (x : Kept) → x.uses.saved ≡ (kept_of devs d).uses.saved → saved_from k (set devs d x) ≡ saved_from k devs
saved_set k zero [] x same = refl
saved_set k (suc d) [] x same = refl
saved_set k zero (y ∷ ys) x same = ap (λ es. addresses k es ++ saved_from (k + 1) ys) same
saved_set k (suc d) (y ∷ ys) x same = ap (λ list. addresses k y.uses.saved ++ list) (saved_set (k + 1) d ys x same)

parts_set : (devs : List Kept) (d : ℕ) (x : Kept) → part_in x ≡ part_in (kept_of devs d) → map part_in (set devs d x) ≡ map part_in devs
parts_set [] zero x same = refl
parts_set [] (suc d) x same = refl
parts_set (y ∷ ys) zero x same = ap (λ p. p ∷ map part_in ys) same
parts_set (y ∷ ys) (suc d) x same = ap (λ ps. part_in y ∷ ps) (parts_set ys d x same)

opened_set : (devs : List Kept) (d : ℕ) (x : Kept) → opened_in x ≡ opened_in (kept_of devs d) → map opened_in (set devs d x) ≡ map opened_in devs
opened_set [] zero x same = refl
opened_set [] (suc d) x same = refl
opened_set (y ∷ ys) zero x same = ap (λ p. p ∷ map opened_in ys) same
opened_set (y ∷ ys) (suc d) x same = ap (λ ps. opened_in y ∷ ps) (opened_set ys d x same)

pub synced_set : (devs : List Kept) (d : ℕ) (x : Kept) → x.moves.synced ≡ (kept_of devs d).moves.synced → synced_in (set devs d x) ≡ synced_in devs
synced_set [] zero x same = refl
synced_set [] (suc d) x same = refl
synced_set (y ∷ ys) zero x same = sum_by-cons (λ (k : Kept). k.moves.synced) x ys ∙ (ap (λ n. n + synced_in ys) same ∙ sym (sum_by-cons (λ (k : Kept). k.moves.synced) y ys))
synced_set (y ∷ ys) (suc d) x same = sum_by-cons (λ (k : Kept). k.moves.synced) y (set ys d x) ∙ (ap (λ n. y.moves.synced + n) (synced_set ys d x same) ∙ sym (sum_by-cons (λ (k : Kept). k.moves.synced) y ys))

-- the space is the same where a device's sets are
pub space_itself : (whole : Whole) (devs : List Kept) (d : ℕ) (k : Kept) (y : Uses) → k ≡ kept_of devs d → IsSameUses k.uses y → space_of whole (set devs d (record k { uses = y })) ≡ space_of whole devs
space_itself whole devs d k y here same =
    let x : Kept = record k { uses = y } in
    let is : x ≡ record (kept_of devs d) { uses = record (kept_of devs d).uses { spare = y.spare } } = ap (λ (z : Uses). record k { uses = z }) same ∙ ap (λ (z : Kept). record z { uses = record z.uses { spare = y.spare } }) here in
    let parts = parts_set devs d x (ap part_in is) in
    let opened = opened_set devs d x (ap opened_in is) in
    let meta = meta_set 0 d devs x (ap (λ (z : Kept). z.uses.meta) is) in
    let saved = saved_set 0 d devs x (ap (λ (z : Kept). z.uses.saved) is) in
    let synced = synced_set devs d x (ap (λ (z : Kept). z.moves.synced) is) in
    rw parts rw opened rw meta rw saved rw synced refl

module _ (whole : Whole) (s t : Devices) (devs : List Kept) (d : ℕ) (x : Kept) (old : IsSpace whole s devs) (new : IsSpace whole t (set devs d x)) (there : d < length devs) where
  -- the units of an extent change their role, and no others do
  pub roles_set : (f : Role → Role) (a : Dva) → a.dev ≡ d → ((u : ℕ) → role_in x.uses u ≡ (if in_extent (extent_of a) u then f (role_in (kept_of devs d).uses u) else role_in (kept_of devs d).uses u))
      → (j u : ℕ) → role_at (space_of whole (set devs d x)) j u ≡ (if in_address a j u then f (role_at (space_of whole devs) j u) else role_at (space_of whole devs) j u)
  roles_set f a dev here j u =
      roles_are whole (set devs d x) j u new
      ∙ (on_each devs d x (λ i y. role_in y.uses u ≡ (if in_address a i u then f (role_in (kept_of devs i).uses u) else role_in (kept_of devs i).uses u)) there
      (let h = here u in let is : (a.dev == d) ≡ true = grind (arith, nat_tests, dev) in h ∙ rw is refl)
      (λ i ne. let is : (a.dev == i) ≡ false = grind (arith, nat_tests, dev, ne) in rw is refl)
      j
      ∙ ap (λ r. if in_address a j u then f r else r) (sym (roles_are whole devs j u old)))

module _ (whole : Whole) (s t : Devices) (devs : List Kept) (d : ℕ) (x : Kept) (old : IsSpace whole s devs) (new : IsSpace whole t (set devs d x)) (there : d < length devs) (moves : x.moves ≡ (kept_of devs d).moves) where
  pub same_fresh : MarksNothing (space_of whole devs) (space_of whole (set devs d x))
  same_fresh j u =
      ap (λ (p : DevPart). has_unit p.fresh u) (part_is (set devs d x) j)
      ∙ (on_each devs d x (λ i y. has_unit y.moves.fresh u ≡ has_unit (kept_of devs i).moves.fresh u) there (ap (λ (m : Mapped). has_unit m.fresh u) moves) (λ i ne. refl) j
      ∙ sym (ap (λ (p : DevPart). has_unit p.fresh u) (part_is devs j)))

  pub same_part : x.row ≡ (kept_of devs d).row → x.uses.late1 ≡ (kept_of devs d).uses.late1 → x.uses.late2 ≡ (kept_of devs d).uses.late2 → (j : ℕ) → IsSamePart (part_of (map part_in devs) j) (part_of (map part_in (set devs d x)) j)
  same_part row late1 late2 j =
      subst (λ p. IsSamePart p (part_of (map part_in (set devs d x)) j)) (sym (part_is devs j))
      (subst (λ p. IsSamePart (part_in (kept_of devs j)) p) (sym (part_is (set devs d x) j))
      (on_each devs d x (λ i y. IsSamePart (part_in (kept_of devs i)) (part_in y)) there
      (record { row = row; entries = ap (λ (m : Mapped). m.entries) moves; counts = ap (λ (m : Mapped). m.counts) moves; late1 = ap late_runs late1; late2 = ap late_runs late2 })
      (λ i ne. record { row = refl; entries = refl; counts = refl; late1 = refl; late2 = refl })
      j))

  pub same_frame : x.row ≡ (kept_of devs d).row → x.uses.late1 ≡ (kept_of devs d).uses.late1 → x.uses.late2 ≡ (kept_of devs d).uses.late2 → x.uses.saved ≡ (kept_of devs d).uses.saved → SameUses (kept_of devs d).uses x.uses
      → IsSameFrame (space_of whole devs) (space_of whole (set devs d x))
  same_frame row late1 late2 saved root = record {
    version = refl;
    cond = refl;
    ckpt = refl;
    synced = synced_set devs d x (ap (λ (m : Mapped). m.synced) moves);
    saved_meta = saved_set 0 d devs x saved;
    devices = length-map (set devs d x) part_in ∙ (length-set devs d x ∙ sym (length-map devs part_in));
    each = same_part row late1 late2;
    root = same_root whole devs d x there root (λ u. ap (λ (m : Mapped). was_fresh_in m u) moves);
    lawful = λ was. lawful whole t (set devs d x) new;
  }
