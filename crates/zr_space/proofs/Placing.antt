-- Where the same units are free, a placement is the same.
use Rattle.std.proofs.Common.{◌≡◌, ℕ, ◌+◌, ◌<◌, ◌&&◌, ◌∙◌, sym, ap, arith, ◌⊎◌, inl, inr}
use Rattle.zr_base.specs.declared.space.Dva.{Dva}
use Rattle.zr_base.specs.declared.space.Policy.{Policy}
use Rattle.zr_rules.specs.Placement.{Free, IsPlacement, HasNoPlacement, HasRun, HasRunSomewhere, IsBefore, in_metaslab}

-- both see as many devices, and of each of them the same
pub record IsSameFree (f g : Free) : Type 0 where
  pub devs : g.devs ≡ f.devs
  pub serves : (d : ℕ) → d < f.devs → g.serves d ≡ f.serves d
  pub count : (d : ℕ) → g.count d ≡ f.count d
  pub is_free : (d u : ℕ) → g.is_free d u ≡ f.is_free d u

pub same_back : (f g : Free) → IsSameFree f g → IsSameFree g f
same_back f g s = record {
  devs = sym s.devs;
  serves = λ d lt. let e = s.devs in sym (s.serves d (omega (arith, lt, e)));
  count = λ d. sym (s.count d);
  is_free = λ d u. sym (s.is_free d u);
}

has_run : (f g : Free) (want d m : ℕ) → IsSameFree f g → HasRun f want d m → HasRun g want d m
has_run f g want d m s r = record { at = r.at; from = r.from; to = r.to; free = λ u is. s.is_free d u ∙ r.free u is }

pub somewhere : (f g : Free) (want : ℕ) → IsSameFree f g → HasRunSomewhere f want → HasRunSomewhere g want
somewhere f g want s r = record {
  dev = r.dev;
  metaslab = r.metaslab;
  known = let k = r.known in let e = s.devs in omega (arith, k, e);
  serves = s.serves r.dev r.known ∙ r.serves;
  run = has_run f g want r.dev r.metaslab s r.run;
}

before : (f g : Free) (a b : ℕ) → IsSameFree f g → IsBefore f a b → IsBefore g a b
before f g a b s (inl lt) = inl (let x = s.count a in let y = s.count b in omega (arith, lt, x, y))
before f g a b s (inr e) = inr (s.count a ∙ (e.0 ∙ sym (s.count b)), e.1)

after : (f g : Free) (at : Dva) (d : ℕ) → IsSameFree f g → (d ≡ at.dev) ⊎ IsBefore f at.dev d → (d ≡ at.dev) ⊎ IsBefore g at.dev d
after f g at d s (inl e) = inl e
after f g at d s (inr b) = inr (before f g at.dev d s b)

pub placed : (f g : Free) (policy : Policy) (want : ℕ) (at : Dva) → IsSameFree f g → IsPlacement f policy want at → IsPlacement g policy want at
placed f g policy want at s p = record {
  len = p.len;
  known = let k = p.known in let e = s.devs in omega (arith, k, e);
  serves = s.serves at.dev p.known ∙ p.serves;
  metaslab = p.metaslab;
  runs = p.runs;
  index = p.index;
  are_runs = record {
    members = λ u. p.are_runs.members u ∙ ap (λ b. b && in_metaslab p.metaslab u) (sym (s.is_free at.dev u));
    maximal = p.are_runs.maximal;
  };
  inside = p.inside;
  fits = p.fits;
  named = p.named;
  front = p.front;
  first_metaslab = λ m r. p.first_metaslab m (has_run g f want at.dev m (same_back f g s) r);
  first_device = λ d m lt serves r.
      let known : d < f.devs = let e = s.devs in omega (arith, lt, e) in
      after f g at d s (p.first_device d m known (sym (s.serves d known) ∙ serves) (has_run g f want d m (same_back f g s) r));
}

pub not_placed : (f g : Free) (needed longest : ℕ) → IsSameFree f g → HasNoPlacement f needed longest → HasNoPlacement g needed longest
not_placed f g needed longest s p = record {
  none = λ r. p.none (somewhere g f needed (same_back f g s) r);
  some = λ lt. somewhere f g longest s (p.some lt);
  most = λ r. p.most (somewhere g f (longest + 1) (same_back f g s) r);
}
