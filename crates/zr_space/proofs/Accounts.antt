-- What changes of a device keep: each unit is once free or in one of its sets.
use Rattle.std.proofs.Common.{◌≡◌, refl, ap, List, [], ℕ, ◌+◌, Bool, true, ◌&&◌, ◌||◌, not, arith, if◌then◌else◌}
use Rattle.std.proofs.lemmas.Bool.Decides.{nat_tests}
use Rattle.zr_base.specs.declared.space.Extent.{Extent}
use Rattle.zr_base.specs.Extents.{in_extent, has_unit, unit_count, IsMaximal, HasAll, HasNone}
use Rattle.zr_rules.specs.Roles.{is_free_role, freed, kept_of, discarded, aged, cleared, dropped, saved}
use Rattle.zr_rules.specs.Roles.Role.{FreshLive, Meta}
use Rattle.zr_units.specs.Uses.{Uses, IsAccount, IsSameUses}
use Rattle.zr_units.specs.Changes.{Holds, HoldsMeta, DropsMeta, DropsSaved, FreesUnits, KeepsUnits, DiscardsUnits, aged_uses, cleared_uses, saved_uses, has_freed}
use Rattle.zr_space.specs.Views.{role_in}

-- the same units are free
pub account_as : (f g : ℕ → Bool) (m n : ℕ) (x : Uses) → ((u : ℕ) → g u ≡ f u) → n ≡ m → IsAccount f m x → IsAccount g n x
account_as f g m n x same is a = record {
  once = λ u. let s = same u in let o = a.once u in grind (arith, nat_tests, s, o);
  born = a.born;
  keeping = a.keeping;
  copying = a.copying;
  sum = let s = a.sum in omega (arith, s, is);
  small = a.small;
  lists = a.lists;
}

-- the same sets
pub same_account : (f : ℕ → Bool) (n : ℕ) (x y : Uses) → IsSameUses x y → IsAccount f n x → IsAccount f n y
same_account f n x y same a = record {
  once = λ u. grind (arith, nat_tests, a.once u, same);
  born = λ u is. grind (arith, nat_tests, a.born u, same, is);
  keeping = record {
    held = λ u is. grind (arith, nat_tests, a.keeping.held u, same, is);
    settled = λ u is. grind (arith, nat_tests, a.keeping.settled u, same, is);
    came = λ u is. grind (arith, nat_tests, a.keeping.came u, same, is);
    went = λ u is. grind (arith, nat_tests, a.keeping.went u, same, is);
  };
  copying = record { held = λ u is. grind (arith, nat_tests, a.copying.held u, same, is); unkept = λ u is. grind (arith, nat_tests, a.copying.unkept u, same, is) };
  sum = grind (arith, a.sum, same);
  small = grind (arith, a.small, same);
  lists = rw same (record { held = a.lists.held; born = a.lists.born; kept = a.lists.kept; came = a.lists.came; went = a.lists.went; copies = a.lists.copies; freed = a.lists.freed; late1 = a.lists.late1; late2 = a.lists.late2; meta = a.lists.meta; saved = a.lists.saved });
}

-- a unit is free where no set has it
pub free_in : (f : ℕ → Bool) (n : ℕ) (x : Uses) → IsAccount f n x → (u : ℕ) → is_free_role (role_in x u) ≡ f u
free_in f n x a u = let o = a.once u in grind (arith, nat_tests, o)

-- ---- units for a block

pub holds_account : (f g : ℕ → Bool) (m n : ℕ) (x y : Uses) (e : Extent) → IsAccount f m x → Holds x y e → ((u : ℕ) → in_extent e u ≡ true → f u ≡ true) → ((u : ℕ) → g u ≡ (f u && not (in_extent e u))) → n + e.len ≡ m → IsAccount g n y
holds_account f g m n x y e a h free taken count = record {
  once = λ u. grind (arith, nat_tests, a.once u, h.held.members u, h.others, free u, taken u);
  born = λ u. grind (arith, nat_tests, a.born u, h.held.members u, h.born.members u, h.others);
  keeping = record {
    held = λ u is. grind (arith, nat_tests, a.keeping.held u, h.held.members u, h.others, is);
    settled = λ u is. grind (arith, nat_tests, a.once u, a.keeping.held u, a.keeping.settled u, h.born.members u, h.others, free u, is);
    came = λ u is. grind (arith, nat_tests, a.keeping.came u, h.others, is);
    went = λ u is. grind (arith, nat_tests, a.keeping.went u, h.others, is);
  };
  copying = record { held = λ u is. grind (arith, nat_tests, a.copying.held u, h.held.members u, h.others, is); unkept = λ u is. grind (arith, nat_tests, a.copying.unkept u, h.others, is) };
  sum = grind (arith, a.sum, h.held.count, h.others, count);
  small = grind (arith, a.small, h.others);
  lists = rw h.others (record { held = h.held.maximal; born = h.born.maximal; kept = a.lists.kept; came = a.lists.came; went = a.lists.went; copies = a.lists.copies; freed = a.lists.freed; late1 = a.lists.late1; late2 = a.lists.late2; meta = a.lists.meta; saved = a.lists.saved });
}

pub holds_roles : (f : ℕ → Bool) (m : ℕ) (x y : Uses) (e : Extent) → IsAccount f m x → Holds x y e → ((u : ℕ) → in_extent e u ≡ true → f u ≡ true) → (u : ℕ) → role_in y u ≡ (if in_extent e u then FreshLive else role_in x u)
holds_roles f m x y e a h free u = rw h.others (grind (arith, nat_tests, a.once u, a.keeping.held u, a.copying.held u, h.held.members u, h.born.members u, free u))

-- ---- units for metadata

pub holds_meta_account : (f g : ℕ → Bool) (m n : ℕ) (x y : Uses) (e : Extent) → IsAccount f m x → HoldsMeta x y e → ((u : ℕ) → in_extent e u ≡ true → f u ≡ true) → ((u : ℕ) → g u ≡ (f u && not (in_extent e u))) → n + e.len ≡ m → IsAccount g n y
holds_meta_account f g m n x y e a h free taken count = record {
  once = λ u. grind (arith, nat_tests, a.once u, h.meta.members u, h.others, free u, taken u);
  born = λ u. grind (arith, nat_tests, a.born u, h.others);
  keeping = record {
    held = λ u is. grind (arith, nat_tests, a.keeping.held u, h.others, is);
    settled = λ u is. grind (arith, nat_tests, a.keeping.settled u, h.others, is);
    came = λ u is. grind (arith, nat_tests, a.keeping.came u, h.others, is);
    went = λ u is. grind (arith, nat_tests, a.keeping.went u, h.others, is);
  };
  copying = record { held = λ u is. grind (arith, nat_tests, a.copying.held u, h.others, is); unkept = λ u is. grind (arith, nat_tests, a.copying.unkept u, h.others, is) };
  sum = grind (arith, a.sum, h.meta.count, h.others, count);
  small = grind (arith, a.small, h.others);
  lists = rw h.others (record { held = a.lists.held; born = a.lists.born; kept = a.lists.kept; came = a.lists.came; went = a.lists.went; copies = a.lists.copies; freed = a.lists.freed; late1 = a.lists.late1; late2 = a.lists.late2; meta = h.meta.maximal; saved = a.lists.saved });
}

pub holds_meta_roles : (f : ℕ → Bool) (m : ℕ) (x y : Uses) (e : Extent) → IsAccount f m x → HoldsMeta x y e → ((u : ℕ) → in_extent e u ≡ true → f u ≡ true) → (u : ℕ) → role_in y u ≡ (if in_extent e u then Meta else role_in x u)
holds_meta_roles f m x y e a h free u = rw h.others (grind (arith, nat_tests, a.once u, h.meta.members u, free u))

-- ---- a free of a block

pub frees_account : (f g : ℕ → Bool) (m n : ℕ) (x y : Uses) (e : Extent) → IsAccount f m x → FreesUnits x y e → ((u : ℕ) → in_extent e u ≡ true → has_unit x.held u ≡ true) → HasNone x.kept e → HasNone x.copies e
    → ((u : ℕ) → g u ≡ (f u || (in_extent e u && has_unit x.born u))) → n + unit_count y.freed.blocks ≡ m + unit_count x.freed.blocks + e.len → IsMaximal y.born → IsMaximal y.freed.blocks → IsAccount g n y
frees_account f g m n x y e a h held unkept uncopied given count born deferred = record {
  once = λ u. grind (arith, nat_tests, a.once u, h.held.members u, h.deferred u, h.others, held u, given u, a.born u);
  born = λ u. grind (arith, nat_tests, a.born u, h.held.members u, h.born u);
  keeping = record {
    held = λ u is. grind (arith, nat_tests, a.keeping.held u, h.held.members u, h.others, unkept u, is);
    settled = λ u is. grind (arith, nat_tests, a.keeping.settled u, h.born u, h.others, is);
    came = λ u is. grind (arith, nat_tests, a.keeping.came u, h.others, is);
    went = λ u is. grind (arith, nat_tests, a.keeping.went u, h.deferred u, h.others, is);
  };
  copying = record { held = λ u is. grind (arith, nat_tests, a.copying.held u, h.held.members u, h.others, uncopied u, is); unkept = λ u is. grind (arith, nat_tests, a.copying.unkept u, h.others, is) };
  sum = grind (arith, a.sum, h.held.count, h.others, count);
  small = grind (arith, a.small, h.others);
  lists = rw h.others (record { held = h.held.maximal; born = born; kept = a.lists.kept; came = a.lists.came; went = a.lists.went; copies = a.lists.copies; freed = record { blocks = deferred; meta = a.lists.freed.meta }; late1 = a.lists.late1; late2 = a.lists.late2; meta = a.lists.meta; saved = a.lists.saved });
}

pub frees_roles : (f : ℕ → Bool) (m : ℕ) (x y : Uses) (e : Extent) → IsAccount f m x → FreesUnits x y e → ((u : ℕ) → in_extent e u ≡ true → has_unit x.held u ≡ true) → HasNone x.kept e → HasNone x.copies e → (u : ℕ) → role_in y u ≡ (if in_extent e u then freed (role_in x u) else role_in x u)
frees_roles f m x y e a h held unkept uncopied u = rw h.others (grind (arith, nat_tests, a.once u, h.held.members u, h.born u, h.deferred u, held u, unkept u, uncopied u))

-- ---- a free of a block that the checkpoint may have

pub keeps_account : (f g : ℕ → Bool) (m n : ℕ) (x y : Uses) (e : Extent) → IsAccount f m x → KeepsUnits x y e → ((u : ℕ) → in_extent e u ≡ true → has_unit x.held u ≡ true) → HasNone x.copies e
    → ((u : ℕ) → g u ≡ (f u || (in_extent e u && has_unit x.born u))) → n + unit_count y.held ≡ m + unit_count x.held → IsMaximal y.held → IsMaximal y.born → IsMaximal y.kept → IsMaximal y.came → IsAccount g n y
keeps_account f g m n x y e a h held uncopied given count max_held max_born max_kept max_came = record {
  once = λ u. grind (arith, nat_tests, a.once u, h.held u, h.others, held u, given u, a.born u);
  born = λ u. grind (arith, nat_tests, a.born u, h.held u, h.born u);
  keeping = record {
    held = λ u is. grind (arith, nat_tests, a.keeping.held u, a.keeping.settled u, h.held u, h.kept u, held u, is);
    settled = λ u is. grind (arith, nat_tests, a.keeping.settled u, h.born u, h.kept u, is);
    came = λ u is. grind (arith, nat_tests, a.keeping.came u, h.came u, h.kept u, is);
    went = λ u is. grind (arith, nat_tests, a.keeping.went u, h.others, is);
  };
  copying = record { held = λ u is. grind (arith, nat_tests, a.copying.held u, h.held u, h.others, uncopied u, is); unkept = λ u is. grind (arith, nat_tests, a.copying.unkept u, h.kept u, h.others, uncopied u, is) };
  sum = grind (arith, a.sum, h.others, count);
  small = grind (arith, a.small, h.others);
  lists = rw h.others (record { held = max_held; born = max_born; kept = max_kept; came = max_came; went = a.lists.went; copies = a.lists.copies; freed = a.lists.freed; late1 = a.lists.late1; late2 = a.lists.late2; meta = a.lists.meta; saved = a.lists.saved });
}

pub keeps_roles : (f : ℕ → Bool) (m : ℕ) (x y : Uses) (e : Extent) → IsAccount f m x → KeepsUnits x y e → ((u : ℕ) → in_extent e u ≡ true → has_unit x.held u ≡ true) → HasNone x.kept e → HasNone x.copies e → (u : ℕ) → role_in y u ≡ (if in_extent e u then kept_of (role_in x u) else role_in x u)
keeps_roles f m x y e a h held unkept uncopied u = rw h.others (grind (arith, nat_tests, a.once u, a.keeping.settled u, h.held u, h.born u, h.kept u, held u, unkept u, uncopied u))

-- ---- kept units that are given up

pub discards_account : (f : ℕ → Bool) (m : ℕ) (x y : Uses) (e : Extent) → IsAccount f m x → DiscardsUnits x y e → HasAll x.kept e → IsAccount f m y
discards_account f m x y e a h all = record {
  once = λ u. grind (arith, nat_tests, a.once u, h.held.members u, h.deferred.members u, h.others, all u, a.keeping.held u);
  born = λ u. grind (arith, nat_tests, a.born u, h.held.members u, h.others, all u, a.keeping.settled u);
  keeping = record {
    held = λ u is. grind (arith, nat_tests, a.keeping.held u, h.held.members u, h.kept.members u, is);
    settled = λ u is. grind (arith, nat_tests, a.keeping.settled u, h.kept.members u, h.others, is);
    came = λ u is. grind (arith, nat_tests, a.keeping.came u, h.came u, h.kept.members u, is);
    went = λ u is. grind (arith, nat_tests, a.keeping.went u, h.went u, h.deferred.members u, is);
  };
  copying = record { held = λ u is. grind (arith, nat_tests, a.copying.held u, a.copying.unkept u, h.held.members u, h.others, all u, is); unkept = λ u is. grind (arith, nat_tests, a.copying.unkept u, h.kept.members u, h.others, is) };
  sum = grind (arith, a.sum, h.held.count, h.deferred.count, h.others);
  small = grind (arith, a.small, h.others);
  lists = rw h.others (record { held = h.held.maximal; born = a.lists.born; kept = h.kept.maximal; came = h.came_maximal a.lists.came; went = h.went_maximal a.lists.went; copies = a.lists.copies; freed = record { blocks = h.deferred.maximal; meta = a.lists.freed.meta }; late1 = a.lists.late1; late2 = a.lists.late2; meta = a.lists.meta; saved = a.lists.saved });
}

pub discards_roles : (f : ℕ → Bool) (m : ℕ) (x y : Uses) (e : Extent) → IsAccount f m x → DiscardsUnits x y e → HasAll x.kept e → (u : ℕ) → role_in y u ≡ (if in_extent e u then discarded (role_in x u) else role_in x u)
discards_roles f m x y e a h all u = rw h.others (grind (arith, nat_tests, a.once u, a.keeping.held u, h.held.members u, h.kept.members u, h.deferred.members u, all u))

-- ---- metadata that is given back

pub drops_account : (f : ℕ → Bool) (m : ℕ) (x y : Uses) (e : Extent) → IsAccount f m x → DropsMeta x y e → ((u : ℕ) → in_extent e u ≡ true → has_unit x.meta u ≡ true) → IsAccount f m y
drops_account f m x y e a h there = record {
  once = λ u. grind (arith, nat_tests, a.once u, h.meta.members u, h.dropped.members u, h.others, there u);
  born = λ u. grind (arith, nat_tests, a.born u, h.others);
  keeping = record {
    held = λ u is. grind (arith, nat_tests, a.keeping.held u, h.others, is);
    settled = λ u is. grind (arith, nat_tests, a.keeping.settled u, h.others, is);
    came = λ u is. grind (arith, nat_tests, a.keeping.came u, h.others, is);
    went = λ u is. grind (arith, nat_tests, a.keeping.went u, h.others, is);
  };
  copying = record { held = λ u is. grind (arith, nat_tests, a.copying.held u, h.others, is); unkept = λ u is. grind (arith, nat_tests, a.copying.unkept u, h.others, is) };
  sum = grind (arith, a.sum, h.meta.count, h.dropped.count, h.others);
  small = grind (arith, a.small, h.others);
  lists = rw h.others (record { held = a.lists.held; born = a.lists.born; kept = a.lists.kept; came = a.lists.came; went = a.lists.went; copies = a.lists.copies; freed = record { blocks = a.lists.freed.blocks; meta = h.dropped.maximal }; late1 = a.lists.late1; late2 = a.lists.late2; meta = h.meta.maximal; saved = a.lists.saved });
}

pub drops_roles : (f : ℕ → Bool) (m : ℕ) (x y : Uses) (e : Extent) → IsAccount f m x → DropsMeta x y e → ((u : ℕ) → in_extent e u ≡ true → has_unit x.meta u ≡ true) → (u : ℕ) → role_in y u ≡ (if in_extent e u then dropped (role_in x u) else role_in x u)
drops_roles f m x y e a h there u = rw h.others (grind (arith, nat_tests, a.once u, h.meta.members u, h.dropped.members u, there u))

pub drops_saved_account : (f : ℕ → Bool) (m : ℕ) (x y : Uses) (e : Extent) → IsAccount f m x → DropsSaved x y e → ((u : ℕ) → in_extent e u ≡ true → has_unit x.saved u ≡ true) → IsAccount f m y
drops_saved_account f m x y e a h there = record {
  once = λ u. grind (arith, nat_tests, a.once u, h.saved.members u, h.dropped.members u, h.others, there u);
  born = λ u. grind (arith, nat_tests, a.born u, h.others);
  keeping = record {
    held = λ u is. grind (arith, nat_tests, a.keeping.held u, h.others, is);
    settled = λ u is. grind (arith, nat_tests, a.keeping.settled u, h.others, is);
    came = λ u is. grind (arith, nat_tests, a.keeping.came u, h.others, is);
    went = λ u is. grind (arith, nat_tests, a.keeping.went u, h.others, is);
  };
  copying = record { held = λ u is. grind (arith, nat_tests, a.copying.held u, h.others, is); unkept = λ u is. grind (arith, nat_tests, a.copying.unkept u, h.others, is) };
  sum = grind (arith, a.sum, h.saved.count, h.dropped.count, h.others);
  small = grind (arith, a.small, h.others);
  lists = rw h.others (record { held = a.lists.held; born = a.lists.born; kept = a.lists.kept; came = a.lists.came; went = a.lists.went; copies = a.lists.copies; freed = record { blocks = a.lists.freed.blocks; meta = h.dropped.maximal }; late1 = a.lists.late1; late2 = a.lists.late2; meta = a.lists.meta; saved = h.saved.maximal });
}

pub drops_saved_roles : (f : ℕ → Bool) (m : ℕ) (x y : Uses) (e : Extent) → IsAccount f m x → DropsSaved x y e → ((u : ℕ) → in_extent e u ≡ true → has_unit x.saved u ≡ true) → (u : ℕ) → role_in y u ≡ (if in_extent e u then dropped (role_in x u) else role_in x u)
drops_saved_roles f m x y e a h there u = rw h.others (grind (arith, nat_tests, a.once u, h.saved.members u, h.dropped.members u, there u))

-- ---- a checkpoint

pub saved_account : (f : ℕ → Bool) (m : ℕ) (x : Uses) → IsAccount f m x → x.saved ≡ [] → IsAccount f m (saved_uses x)
saved_account f m x a none = record {
  once = λ u. let o = a.once u in let n = ap (λ (es : List Extent). has_unit es u) none in grind (arith, nat_tests, o, n);
  born = a.born;
  keeping = record { held = a.keeping.held; settled = a.keeping.settled; came = a.keeping.came; went = a.keeping.went };
  copying = record { held = a.copying.held; unkept = a.copying.unkept };
  sum = let s = a.sum in let n = ap unit_count none in omega (arith, s, n);
  small = a.small;
  lists = record { held = a.lists.held; born = a.lists.born; kept = a.lists.kept; came = a.lists.came; went = a.lists.went; copies = a.lists.copies; freed = a.lists.freed; late1 = a.lists.late1; late2 = a.lists.late2; meta = tt; saved = a.lists.meta };
}

pub saved_roles : (f : ℕ → Bool) (m : ℕ) (x : Uses) → IsAccount f m x → x.saved ≡ [] → (u : ℕ) → role_in (saved_uses x) u ≡ saved (role_in x u)
saved_roles f m x a none u = let o = a.once u in let n = ap (λ (es : List Extent). has_unit es u) none in grind (arith, nat_tests, o, n)

-- ---- commits

pub aged_account : (f g : ℕ → Bool) (m n : ℕ) (x : Uses) → IsAccount f m x → ((u : ℕ) → g u ≡ (f u || has_freed x.late2 u)) → n ≡ m + (unit_count x.late2.blocks + unit_count x.late2.meta) → IsAccount g n (aged_uses x)
aged_account f g m n x a given count = record {
  once = λ u. grind (arith, nat_tests, a.once u, given u);
  born = λ u h. absurd (grind (arith, nat_tests, h));
  keeping = record {
    held = a.keeping.held;
    settled = λ u is. refl;
    came = λ u h. absurd (grind (arith, nat_tests, h));
    went = λ u h. absurd (grind (arith, nat_tests, h));
  };
  copying = record { held = a.copying.held; unkept = a.copying.unkept };
  sum = grind (arith, a.sum, count);
  small = a.small;
  lists = record { held = a.lists.held; born = tt; kept = a.lists.kept; came = tt; went = tt; copies = a.lists.copies; freed = record { blocks = tt; meta = tt }; late1 = a.lists.freed; late2 = a.lists.late1; meta = a.lists.meta; saved = a.lists.saved };
}

pub aged_roles : (f : ℕ → Bool) (m : ℕ) (x : Uses) → IsAccount f m x → (u : ℕ) → role_in (aged_uses x) u ≡ aged (role_in x u)
aged_roles f m x a u = grind (arith, nat_tests, a.once u)

pub cleared_account : (f g : ℕ → Bool) (m n : ℕ) (x : Uses) → IsAccount f m x → ((u : ℕ) → g u ≡ (f u || (has_freed x.freed u || (has_freed x.late1 u || has_freed x.late2 u))))
    → n ≡ m + (unit_count x.freed.blocks + unit_count x.freed.meta + (unit_count x.late1.blocks + unit_count x.late1.meta) + (unit_count x.late2.blocks + unit_count x.late2.meta)) → IsAccount g n (cleared_uses x)
cleared_account f g m n x a given count = record {
  once = λ u. grind (arith, nat_tests, a.once u, given u);
  born = λ u h. absurd (grind (arith, nat_tests, h));
  keeping = record {
    held = a.keeping.held;
    settled = λ u is. refl;
    came = λ u h. absurd (grind (arith, nat_tests, h));
    went = λ u h. absurd (grind (arith, nat_tests, h));
  };
  copying = record { held = a.copying.held; unkept = a.copying.unkept };
  sum = grind (arith, a.sum, count);
  small = a.small;
  lists = record { held = a.lists.held; born = tt; kept = a.lists.kept; came = tt; went = tt; copies = a.lists.copies; freed = record { blocks = tt; meta = tt }; late1 = record { blocks = tt; meta = tt }; late2 = record { blocks = tt; meta = tt }; meta = a.lists.meta; saved = a.lists.saved };
}

pub cleared_roles : (f : ℕ → Bool) (m : ℕ) (x : Uses) → IsAccount f m x → (u : ℕ) → role_in (cleared_uses x) u ≡ cleared (role_in x u)
cleared_roles f m x a u = grind (arith, nat_tests, a.once u)
