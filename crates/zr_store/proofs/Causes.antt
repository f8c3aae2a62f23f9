-- What calls take one after the other, and whose errors they answer.
use Rattle.std.proofs.Common.{◌≡◌, ◌+◌, ◌*◌, ◌≤◌, ◌⊎◌, inl, inr, ℕ, Result, Ok, Err, refl, sym, ◌∙◌, ap, subst, arith}
use Rattle.std.specs.Prelude.{IfErr, IsErrOf}
use Rattle.std.proofs.Math.Nat.{add-mul, mul-le-mul_right}
use Rattle.zr_base.specs.Counts.{HasRisen}
use Rattle.zr_store.specs.declared.StoreErr.{StoreErr}
use Rattle.zr_store.specs.declared.StoreErr.TheVariants.{NoMemory, NoRun, Failed, Unresolved, Damaged}
use Rattle.zr_store.specs.Causes.{Account, Costs, Spends, HasCause, IsNoRun}

risen_later : (a b c : ℕ) → HasRisen a b → b ≤ c → HasRisen a c
risen_later a b c h le = omega arith

risen_before : (a b c : ℕ) → a ≤ b → HasRisen b c → HasRisen a c
risen_before a b c le h = omega arith

-- ---- what was taken

pub spends_none : (a : Account) → Spends 0 0 0 a a
spends_none a = record { faults = omega arith; room = omega arith; load = omega arith; put_load = refl; free_load = refl; resolves = λ at. refl }

pub spends_then : {u p f v q g : ℕ} {a b c : Account} → Spends u p f a b → Spends v q g b c → Spends (u + v) (p + q) (f + g) a c
spends_then {u} {p} {f} {v} {q} {g} {a} {b} {c} first second = record {
  faults = omega (arith, first.faults, second.faults);
  room = omega (arith, first.room, second.room);
  load =
      let puts : q * b.put_load ≡ q * a.put_load = ap (λ (n : ℕ). q * n) first.put_load in
      let frees : g * b.free_load ≡ g * a.free_load = ap (λ (n : ℕ). g * n) first.free_load in
      let one = first.load in
      let two = second.load in
      omega (arith, puts, frees, one, two, add-mul p q a.put_load, add-mul f g a.free_load);
  put_load = second.put_load ∙ first.put_load;
  free_load = second.free_load ∙ first.free_load;
  resolves = λ at. second.resolves at ∙ first.resolves at;
}

-- at most so much is at most more
pub spends_most : {u p f : ℕ} {a b : Account} (v q g : ℕ) → u ≤ v → p ≤ q → f ≤ g → Spends u p f a b → Spends v q g a b
spends_most {u} {p} {f} {a} {b} v q g units puts frees h = record {
  faults = h.faults;
  room = omega (arith, h.room, units);
  load =
      let by_puts : p * a.put_load ≤ q * a.put_load = mul-le-mul_right a.put_load puts in
      let by_frees : f * a.free_load ≤ g * a.free_load = mul-le-mul_right a.free_load frees in
      omega (arith, h.load, by_puts, by_frees);
  put_load = h.put_load;
  free_load = h.free_load;
  resolves = h.resolves;
}

pub costs_none : (a : Account) → Costs 0 0 a a
costs_none a = spends_none a

pub costs_then : {p f q g : ℕ} {a b c : Account} → Costs p f a b → Costs q g b c → Costs (p + q) (f + g) a c
costs_then first second = spends_then first second

pub costs_most : {p f : ℕ} {a b : Account} (q g : ℕ) → p ≤ q → f ≤ g → Costs p f a b → Costs q g a b
costs_most q g puts frees h = spends_most q q g puts puts frees h

-- ---- whose errors they answer

-- an error that a later call answers
pub cause_then : {T : Type 0} {u p f q : ℕ} {a b c : Account} {r : Result T StoreErr} → Spends u p f a b → HasCause q b c r → HasCause (u + q) a c r
cause_then {T} {u} {p} {f} {q} {a} {b} {c} {r} first h = record {
  failed = λ is. risen_before a.faults b.faults c.faults first.faults (h.failed is);
  no_run = λ needed longest is. let e = h.no_run needed longest is in (omega (arith, e, first.room), e.1);
  unresolved = λ at expected is. sym (first.resolves at) ∙ h.unresolved at expected is;
  damaged = h.damaged;
}

pub cause_most : {T : Type 0} {p : ℕ} {a b : Account} {r : Result T StoreErr} (q : ℕ) → p ≤ q → HasCause p a b r → HasCause q a b r
cause_most {T} {p} {a} {b} {r} q le h = record {
  failed = h.failed;
  no_run = λ needed longest is. let e = h.no_run needed longest is in (omega (arith, e, le), e.1);
  unresolved = h.unresolved;
  damaged = h.damaged;
}

-- calls after the error change nothing of its cause
pub cause_later : {T : Type 0} {q u p f : ℕ} {a b c : Account} {r : Result T StoreErr} → HasCause q a b r → Spends u p f b c → HasCause q a c r
cause_later {T} {q} {u} {p} {f} {a} {b} {c} {r} h after = record {
  failed = λ is. risen_later a.faults b.faults c.faults (h.failed is) after.faults;
  no_run = h.no_run;
  unresolved = h.unresolved;
  damaged = h.damaged;
}

-- an error is the same whatever the value would be
pub again : {T U : Type 0} (e x : StoreErr) → IsErrOf {T = T} (Err e) x → IsErrOf {T = U} (Err e) x
again e x is = let same : e ≡ x = cc in ap (λ (y : StoreErr). Err y) same

pub cause_again : {T U : Type 0} {q : ℕ} {a b : Account} {e : StoreErr} → HasCause {T = T} q a b (Err e) → HasCause {T = U} q a b (Err e)
cause_again {T} {U} {q} {a} {b} {e} h = record {
  failed = λ is. h.failed (again e Failed is);
  no_run = λ needed longest is. h.no_run needed longest (again e (NoRun needed longest) is);
  unresolved = λ at expected is. h.unresolved at expected (again e (Unresolved at expected) is);
  damaged = λ at expected found is. h.damaged at expected found (again e (Damaged at expected found) is);
}

-- the error that a `?` hands on
pub cause_from : {T U : Type 0} {q : ℕ} {a b : Account} (r : Result U StoreErr) (e : StoreErr) → (y : StoreErr) × (r ≡ Err y) × (y ≡ e) → HasCause {T = T} q a b (Err e) → HasCause q a b r
cause_from {T} {U} {q} {a} {b} r e given h = subst (λ (x : Result U StoreErr). HasCause q a b x) (sym (given.1 ∙ ap (λ (y : StoreErr). Err y) given.2)) (cause_again {T = T} {U = U} h)

-- no error has no cause
pub cause_ok : {T : Type 0} {q : ℕ} {a b : Account} (v : T) → HasCause q a b (Ok v)
cause_ok v = record {
  failed = λ is. cc;
  no_run = λ needed longest is. absurd cc;
  unresolved = λ at expected is. absurd cc;
  damaged = λ at expected found is. absurd cc;
}

pub cause_memory : {T : Type 0} {q : ℕ} {a b : Account} (e : StoreErr) → e ≡ NoMemory → HasCause {T = T} q a b (Err e)
cause_memory e none = record {
  failed = λ is. absurd cc;
  no_run = λ needed longest is. absurd cc;
  unresolved = λ at expected is. absurd cc;
  damaged = λ at expected found is. absurd cc;
}

-- a put of one unit
pub cause_put : {T : Type 0} {a b : Account} (r : Result T StoreErr) → (IsErrOf r Failed → HasRisen a.faults b.faults) → ((needed longest : ℕ) → IsErrOf r (NoRun needed longest) → IsNoRun 1 a needed longest)
    → IfErr r (λ e. (e ≡ Failed) ⊎ ((e ≡ NoMemory) ⊎ ((needed longest : ℕ) × (e ≡ NoRun needed longest)))) → HasCause 1 a b r
cause_put (Ok v) failed no_run errors = cause_ok v
cause_put (Err e) failed no_run errors = record {
  failed = failed;
  no_run = λ needed longest is. let h = no_run needed longest is in (omega (arith, h.full refl), (let lt = h.short in let w = h.wanted in omega (arith, lt, w)));
  unresolved = λ at expected is. absurd (other errors (λ f. cc) (λ f. cc) (λ n l f. cc));
  damaged = λ at expected found is. absurd (other errors (λ f. cc) (λ f. cc) (λ n l f. cc));
}
  where
    other : {E : Type 0} → (e ≡ Failed) ⊎ ((e ≡ NoMemory) ⊎ ((needed longest : ℕ) × (e ≡ NoRun needed longest))) → (e ≡ Failed → E) → (e ≡ NoMemory → E) → ((n l : ℕ) → e ≡ NoRun n l → E) → E
    other (inl f) x y z = x f
    other (inr (inl f)) x y z = y f
    other (inr (inr (n, l, f))) x y z = z n l f
