-- Kept extents are given back one after the other.
use Rattle.std.proofs.Common.{◌≡◌, ◌⊎◌, inl, inr, ℕ, ◌<◌, Bool, true, false, ◌==◌, ◌&&◌, ◌||◌, not, List, [], ◌∷◌, length, refl, ◌∙◌, sym, ap, subst, arith, if◌then◌else◌}
use Rattle.std.specs.List.{sum_by}
use Rattle.std.proofs.lemmas.List.Sums.{sum_by-cons}
use Rattle.std.proofs.lemmas.Bool.Decides.{nat_tests}
use Rattle.zr_base.specs.declared.space.Extent.{Extent}
use Rattle.zr_base.specs.Extents.{in_extent}
use Rattle.zr_rules.specs.Places.{is_fresh}
use Rattle.zr_rules.specs.Roles.{Role, discarded, is_kept_role}
use Rattle.zr_rules.specs.Space.{Space, role_at}
use Rattle.zr_rules.specs.Frees.{IsSameFrame}
use Rattle.zr_rules.specs.Steps.{Discards, is_among}
use Rattle.zr_space.specs.Discards.{AreApart, AreKnown, CanDiscard, DiscardsPart}
use Rattle.zr_space.proofs.Discards.{frame_itself}

pub frames_join : (a b c : Space) → IsSameFrame a b → IsSameFrame b c → IsSameFrame a c
frames_join a b c p q = record {
  version = q.version ∙ p.version;
  cond = q.cond ∙ p.cond;
  ckpt = q.ckpt ∙ p.ckpt;
  synced = q.synced ∙ p.synced;
  saved_meta = q.saved_meta ∙ p.saved_meta;
  devices = q.devices ∙ p.devices;
  each = λ d. let x = p.each d in let y = q.each d in record { row = y.row ∙ x.row; entries = y.entries ∙ x.entries; counts = y.counts ∙ x.counts; late1 = y.late1 ∙ x.late1; late2 = y.late2 ∙ x.late2 };
  root = record { held = λ d u. q.root.held d u ∙ p.root.held d u; kept = λ d u. q.root.kept d u ∙ p.root.kept d u; fresh = λ d u. q.root.fresh d u ∙ p.root.fresh d u };
  lawful = λ l. q.lawful (p.lawful l);
}

-- of the list these are left, and the others are given back
pub record IsGiving (first now : Space) (list rest : List (ℕ × Extent)) : Type 0 where
  pub roles : (d u : ℕ) → role_at now d u ≡ (if is_among list d u && not (is_among rest d u) then discarded (role_at first d u) else role_at first d u)
  pub within : (d u : ℕ) → is_among rest d u ≡ true → is_among list d u ≡ true
  pub fresh : (d u : ℕ) → is_fresh now.parts.devs d u ≡ is_fresh first.parts.devs d u
  pub meta : now.meta ≡ first.meta
  pub frame : IsSameFrame first now
  pub can : CanDiscard now rest

pub starts_giving : (first : Space) (list : List (ℕ × Extent)) → CanDiscard first list → IsGiving first first list list
starts_giving first list can = record {
  roles = λ d u. same (is_among list d u) (role_at first d u);
  within = λ d u is. is;
  fresh = λ d u. refl;
  meta = refl;
  frame = frame_itself first;
  can = can;
}
  where
    same : (b : Bool) (r : Role) → r ≡ (if b && not b then discarded r else r)
    same true r = refl
    same false r = refl

known_still : (m n : ℕ) (es : List (ℕ × Extent)) → m ≡ n → AreKnown n es → AreKnown m es
known_still m n es is k = subst (λ i. AreKnown i es) (sym is) k

-- the next one is given back
next_role : (all one tail : Bool) (first mid new : Role) → mid ≡ (if all && not (one || tail) then discarded first else first) → new ≡ (if one || false then discarded mid else mid) → (one || tail ≡ true → all ≡ true) → (one ≡ true → tail ≡ false)
    → new ≡ (if all && not tail then discarded first else first)
next_role all true tail first mid new m n within apart = let t = apart refl in let a = within refl in rw t rw a (n ∙ ap discarded (rw a at m))
next_role all false tail first mid new m n within apart = n ∙ m

module _ (first mid new : Space) (list rest tail : List (ℕ × Extent)) (p : ℕ × Extent) where
  pub gives_more : IsGiving first mid list rest → rest ≡ p ∷ tail → Discards mid new (p ∷ []) → IsGiving first new list tail
  gives_more g is d =
      let can : CanDiscard mid (p ∷ tail) = subst (λ (es : List (ℕ × Extent)). CanDiscard mid es) is g.can in
      let apart : (e u : ℕ) → (p.0 == e && in_extent p.1 u) ≡ true → is_among tail e u ≡ false = λ e u at. first_apart e u can.apart.1 at in
      record {
        roles = λ e u.
            next_role (is_among list e u) (p.0 == e && in_extent p.1 u) (is_among tail e u) (role_at first e u) (role_at mid e u) (role_at new e u)
            (g.roles e u ∙ ap (λ (es : List (ℕ × Extent)). if is_among list e u && not (is_among es e u) then discarded (role_at first e u) else role_at first e u) is)
            (d.roles e u)
            (λ at. g.within e u (ap (λ (es : List (ℕ × Extent)). is_among es e u) is ∙ at))
            (apart e u);
        within = λ e u at. g.within e u (ap (λ (es : List (ℕ × Extent)). is_among es e u) is ∙ behind (p.0 == e && in_extent p.1 u) (is_among tail e u) at);
        fresh = λ e u. d.fresh e u ∙ g.fresh e u;
        meta = d.meta ∙ g.meta;
        frame = frames_join first mid new g.frame d.frame;
        can = record {
          known = known_still (length new.parts.devs) (length mid.parts.devs) tail d.frame.devices can.known.1;
          apart = can.apart.2;
          kept = λ e u at. kept_still (p.0 == e && in_extent p.1 u) (is_among tail e u) (role_at mid e u) (role_at new e u) at (apart e u) (d.roles e u) (can.kept e u (behind (p.0 == e && in_extent p.1 u) (is_among tail e u) at));
        };
      }
    where
      behind : (a b : Bool) → b ≡ true → (a || b) ≡ true
      behind true b is = refl
      behind false b is = is

      first_apart : (e u : ℕ) → ((v : ℕ) → in_extent p.1 v ≡ true → is_among tail p.0 v ≡ false) → (p.0 == e && in_extent p.1 u) ≡ true → is_among tail e u ≡ false
      first_apart e u all at =
          let same : p.0 ≡ e = grind (arith, nat_tests, at) in
          let inside : in_extent p.1 u ≡ true = grind (arith, nat_tests, at) in
          subst (λ i. is_among tail i u ≡ false) same (all u inside)

      kept_still : (a b : Bool) (r t : Role) → b ≡ true → (a ≡ true → b ≡ false) → t ≡ (if a || false then discarded r else r) → is_kept_role r ≡ true → is_kept_role t ≡ true
      kept_still true b r t is apart new was = absurd (false_true (sym (apart refl) ∙ is))
        where
          false_true : false ≡ true → ⊥
          false_true e = cc
      kept_still false b r t is apart new was = ap is_kept_role new ∙ was

-- all are given back
pub gives_all : (first now : Space) (list rest : List (ℕ × Extent)) → IsGiving first now list rest → rest ≡ [] → Discards first now list
gives_all first now list rest g none = record {
  roles = λ d u. g.roles d u ∙ (ap (λ (es : List (ℕ × Extent)). if is_among list d u && not (is_among es d u) then discarded (role_at first d u) else role_at first d u) none ∙ all (is_among list d u) (role_at first d u));
  fresh = g.fresh;
  meta = g.meta;
  frame = g.frame;
}
  where
    all : (b : Bool) (r : Role) → (if b && true then discarded r else r) ≡ (if b then discarded r else r)
    all true r = refl
    all false r = refl

twice : (r : Role) → discarded (discarded r) ≡ discarded r
twice r = grind (arith)

-- what an error leaves
pub gives_part : (first mid new : Space) (list rest : List (ℕ × Extent)) → IsGiving first mid list rest → DiscardsPart mid new → DiscardsPart first new
gives_part first mid new list rest g p = record {
  roles = λ d u. join (is_among list d u && not (is_among rest d u)) (role_at first d u) (role_at mid d u) (role_at new d u) (g.roles d u) (p.roles d u);
  meta = p.meta ∙ g.meta;
  frame = frames_join first mid new g.frame p.frame;
}
  where
    join : (b : Bool) (r m n : Role) → m ≡ (if b then discarded r else r) → (n ≡ m) ⊎ (n ≡ discarded m) → (n ≡ r) ⊎ (n ≡ discarded r)
    join true r m n a (inl x) = inr (x ∙ a)
    join true r m n a (inr x) = inr (x ∙ (ap discarded a ∙ twice r))
    join false r m n a (inl x) = inl (x ∙ a)
    join false r m n a (inr x) = inr (x ∙ ap discarded a)

-- extents that are not empty have units
pub some_units : (es : List (ℕ × Extent)) → AreApart es → 0 < length es → 0 < sum_by (λ (e : ℕ × Extent). e.1.len) es
some_units [] a lt = absurd (omega (arith, lt))
some_units (p ∷ ps) a lt = let first = a.0 in let all = sum_by-cons (λ (e : ℕ × Extent). e.1.len) p ps in omega (arith, first, all)

pub no_extents : (es : List (ℕ × Extent)) → length es ≡ 0 → es ≡ []
no_extents [] e = refl
no_extents (p ∷ ps) e = absurd (omega (arith, e))
