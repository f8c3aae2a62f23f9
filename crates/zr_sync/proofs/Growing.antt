-- The words that a log gains lead from the set of the last root to the set now.
use Rattle.std.proofs.Common.{◌≡◌, ◌∙◌, ℕ, ◌+◌, ◌*◌, ◌≤◌, ◌<◌, Bool, true, false, not, nat_le, nat_lt, List, [], ◌∷◌, ◌++◌, length, refl, sym, ap, subst, arith, length-append}
use Rattle.std.specs.Prelude.{if◌then◌else◌, ◌&&◌}
use Rattle.std.specs.List.{flat_map}
use Rattle.std.proofs.lemmas.Bool.Decides.{nat_tests}
use Rattle.std.proofs.lemmas.List.{append_assoc, append-nil}
use Rattle.zr_base.specs.declared.space.Change.{Change}
use Rattle.zr_base.specs.declared.space.Extent.{Extent}
use Rattle.zr_base.specs.Extents.{has_unit, in_extent, IsMaximal}
use Rattle.zr_base.proofs.ExtentSets.{same_extents}
use Rattle.zr_commit.specs.Logs.{is_long}
use Rattle.zr_meta.proofs.Lates.{both_spelled}
use Rattle.zr_rules.specs.Logs.{IsAnew, IsInTurn, IsLog, SpellsChanges, change_words, longest_run, taken_after}
use Rattle.zr_rules.specs.Places.{part_of}
use Rattle.zr_rules.specs.Space.{Space}
use Rattle.zr_smap.proofs.Replaying.{anew_replays}
use Rattle.zr_units.specs.Differences.{Replays}
use Rattle.zr_sync.specs.Words.{AddsCut, ReplaysAs, log_has, log_set}
use Rattle.zr_sync.specs.declared.words.Log.{Log}
use Rattle.zr_sync.specs.declared.words.Log.TheVariants.{Held, Kept, Fresh}

-- ---- changes behind others

pub taken_behind : (xs ys : List Change) (before : Bool) (u : ℕ) → taken_after before (xs ++ ys) u ≡ taken_after (taken_after before xs u) ys u
taken_behind [] ys before u = refl
taken_behind (x ∷ xs) ys before u = taken_behind xs ys (if in_extent x.at u then not x.free else before) u

pub turn_behind : (xs ys : List Change) (before : Bool) (u : ℕ) → IsInTurn before xs u → IsInTurn (taken_after before xs u) ys u → IsInTurn before (xs ++ ys) u
turn_behind [] ys before u first rest = rest
turn_behind (x ∷ xs) ys before u first rest = (first.0, turn_behind xs ys (if in_extent x.at u then not x.free else before) u first.1 rest)

turn_front : (xs ys : List Change) (before : Bool) (u : ℕ) → IsInTurn before (xs ++ ys) u → IsInTurn before xs u
turn_front [] ys before u all = tt
turn_front (x ∷ xs) ys before u all = (all.0, turn_front xs ys (if in_extent x.at u then not x.free else before) u all.1)

turn_back : (xs ys : List Change) (before : Bool) (u : ℕ) → IsInTurn before (xs ++ ys) u → IsInTurn (taken_after before xs u) ys u
turn_back [] ys before u all = all
turn_back (x ∷ xs) ys before u all = turn_back xs ys (if in_extent x.at u then not x.free else before) u all.1

-- ---- a change that is cut

-- the runs of a change up to a place
pub record CutsTo (old now : List Change) (c : Change) (end : ℕ) : Type 0 where
  pub pieces : List Change
  pub put : now ≡ old ++ pieces
  pub turns : (before : Bool) (u : ℕ) → (c.at.start ≤ u → u < end → before ≡ c.free) → IsInTurn before pieces u
  pub members : (before : Bool) (u : ℕ) → taken_after before pieces u ≡ (if nat_le c.at.start u && nat_lt u end then not c.free else before)

pub cuts_none : (old : List Change) (c : Change) → CutsTo old old c c.at.start
cuts_none old c = record {
  pieces = [];
  put = sym (append-nil old);
  turns = λ before u is. tt;
  members = λ before u. grind (arith, nat_tests);
}

pub cuts_more : (old now : List Change) (c : Change) (start len : ℕ) → c.at.start ≤ start → CutsTo old now c start → CutsTo old (now ++ record { free = c.free; at = record { start = start; len = len } } ∷ []) c (start + len)
cuts_more old now c start len from h =
    let q : Change = record { free = c.free; at = record { start = start; len = len } } in
    record {
      pieces = h.pieces ++ q ∷ [];
      put = ap (λ (xs : List Change). xs ++ q ∷ []) h.put ∙ append_assoc old h.pieces (q ∷ []);
      turns = λ before u is.
          turn_behind h.pieces (q ∷ []) before u (h.turns before u (λ ge lt. is ge (omega (arith, lt))))
          (λ inside. own before u (h.members before u) inside is, tt);
      members = λ before u. taken_behind h.pieces (q ∷ []) before u ∙ joined before u (taken_after before h.pieces u) (h.members before u);
    }
  where
    own : (before : Bool) (u : ℕ) → taken_after before h.pieces u ≡ (if nat_le c.at.start u && nat_lt u start then not c.free else before) → in_extent (record { start = start; len = len }) u ≡ true
        → (c.at.start ≤ u → u < start + len → before ≡ c.free) → taken_after before h.pieces u ≡ c.free
    own before u are inside is =
        let ge : start ≤ u = grind (arith, nat_tests, inside) in
        let lt : u < start + len = grind (arith, nat_tests, inside) in
        let out : nat_lt u start ≡ false = grind (arith, nat_tests, ge) in
        are ∙ grind (arith, nat_tests, out, is (omega (arith, ge, from)) lt)

    joined : (before : Bool) (u : ℕ) (after : Bool) → after ≡ (if nat_le c.at.start u && nat_lt u start then not c.free else before)
        → (if in_extent (record { start = start; len = len }) u then not c.free else after) ≡ (if nat_le c.at.start u && nat_lt u (start + len) then not c.free else before)
    joined before u after are = grind (arith, nat_tests, are, from)

-- the runs are the whole change
pub cuts_all : (old now : List Change) (c : Change) (end : ℕ) → end ≡ c.at.start + c.at.len → CutsTo old now c end → AddsCut old now c
cuts_all old now c end is h = record {
  pieces = h.pieces;
  put = h.put;
  replays = record {
    turns = λ before u turn. h.turns before u (λ ge lt. turn.0 (grind (arith, nat_tests, ge, lt, is)));
    members = λ before u. h.members before u ∙ ap (λ (n : ℕ). if nat_le c.at.start u && nat_lt u n then not c.free else before) is;
  };
}

-- of these changes the front is cut, and these are left
pub record HasCut (changes cut rest : List Change) : Type 0 where
  pub front : List Change
  pub split : changes ≡ front ++ rest
  pub replays : ReplaysAs front cut

pub has_none : (changes : List Change) → HasCut changes [] changes
has_none changes = record { front = []; split = refl; replays = record { turns = λ before u turn. tt; members = λ before u. refl } }

replays_more : (front old now : List Change) (c : Change) → ReplaysAs front old → AddsCut old now c → ReplaysAs (front ++ c ∷ []) now
replays_more front old now c h adds = record {
  turns = λ before u turn.
      subst (λ (xs : List Change). IsInTurn before xs u) (sym adds.put)
      (turn_behind old adds.pieces before u (h.turns before u (turn_front front (c ∷ []) before u turn))
      (subst (λ (b : Bool). IsInTurn b adds.pieces u) (sym (h.members before u)) (adds.replays.turns (taken_after before front u) u (turn_back front (c ∷ []) before u turn))));
  members = λ before u.
      ap (λ (xs : List Change). taken_after before xs u) adds.put
      ∙ taken_behind old adds.pieces before u
      ∙ ap (λ (b : Bool). taken_after b adds.pieces u) (h.members before u)
      ∙ adds.replays.members (taken_after before front u) u
      ∙ sym (taken_behind front (c ∷ []) before u);
}

pub has_more : (changes old now rest tail : List Change) (c : Change) → rest ≡ c ∷ tail → HasCut changes old rest → AddsCut old now c → HasCut changes now tail
has_more changes old now rest tail c is h adds = record {
  front = h.front ++ c ∷ [];
  split = h.split ∙ ap (λ (xs : List Change). h.front ++ xs) is ∙ sym (append_assoc h.front (c ∷ []) tail);
  replays = replays_more h.front old now c h.replays adds;
}

pub has_all : (changes cut rest : List Change) → rest ≡ [] → HasCut changes cut rest → ReplaysAs changes cut
has_all changes cut rest none h = subst (λ (xs : List Change). ReplaysAs xs cut) (sym (h.split ∙ ap (λ (xs : List Change). h.front ++ xs) none ∙ append-nil h.front)) h.replays

-- ---- the log

-- a set that is written anew is its log
pub anew_log : (version dev : ℕ) (words : List ℕ) (es : List Extent) → IsMaximal es → IsAnew version dev es words → IsLog version dev words es
anew_log version dev words es maximal anew = record {
  changes = _;
  spelling = anew.spelling;
  replay = anew_replays (longest_run version) es anew.runs maximal anew.cut;
  anew = words;
  is_anew = anew;
  short = omega arith;
}

module _ (version dev : ℕ) (had added : List ℕ) (es now : List Extent) (changes cut : List Change) (log : IsLog version dev had es) (spelled : SpellsChanges version dev added cut) (alike : ReplaysAs changes cut) (was is_in : ℕ → Bool)
    (replays : Replays was is_in changes) (were : (u : ℕ) → has_unit es u ≡ was u) (are : (u : ℕ) → has_unit now u ≡ is_in u) (maximal : IsMaximal now) where
  left_is : (u : ℕ) → taken_after false log.changes u ≡ was u
  left_is u = sym (log.replay.members u) ∙ were u

  -- a log that gained words
  pub grown_log : (anew : List ℕ) → IsAnew version dev now anew → length had + length added ≤ 2 * length anew + 512 → IsLog version dev (had ++ added) now
  grown_log anew is_anew short = record {
    changes = log.changes ++ cut;
    spelling = both_spelled version dev had added log.changes cut log.spelling spelled;
    replay = record {
      turns = λ u.
          turn_behind log.changes cut false u (log.replay.turns u)
          (subst (λ (b : Bool). IsInTurn b cut u) (sym (left_is u)) (alike.turns (was u) u (replays.turns u)));
      members = λ u.
          are u
          ∙ sym (taken_behind log.changes cut false u
          ∙ ap (λ (b : Bool). taken_after b cut u) (left_is u)
          ∙ alike.members (was u) u
          ∙ replays.members u);
      maximal = maximal;
    };
    anew = anew;
    is_anew = is_anew;
    short = omega (arith, short, length-append had added);
  }

  -- a log that gained nothing
  pub same_log : length added ≡ 0 → IsLog version dev had now
  same_log none =
      subst (IsLog version dev had) (same_extents 0 0 es now log.replay.maximal maximal (λ u. were u ∙ (stays u ∙ sym (are u)))) log
    where
      no_words : (xs : List ℕ) → length xs ≡ 0 → xs ≡ []
      no_words [] is = refl
      no_words (x ∷ xs) is = absurd (omega (arith, is))

      no_changes : (dev : ℕ) (cs : List Change) → flat_map (change_words dev) cs ≡ [] → cs ≡ []
      no_changes dev [] is = refl
      no_changes dev (c ∷ cs) is = absurd (grind (arith, nat_tests, is))

      stays : (u : ℕ) → was u ≡ is_in u
      stays u =
          let no_cut = no_changes dev cut (sym spelled.spelling ∙ no_words added none) in
          sym (ap (λ (xs : List Change). taken_after (was u) xs u) no_cut) ∙ (alike.members (was u) u ∙ replays.members u)

-- the units of a log's set now are those of its extents
pub has_now : (log : Log) (s : Space) (d u : ℕ) → has_unit (log_set log (part_of s.parts.devs d)) u ≡ log_has log s d u
has_now Held s d u = refl
has_now Kept s d u = refl
has_now Fresh s d u = refl

-- a log that is not written anew is not much longer than its set
pub still_few : (b : Bool) (words added anew : ℕ) → b ≡ is_long words added anew → b ≡ false → words + added ≤ 2 * anew + 512
still_few b words added anew is short = grind (arith, nat_tests, is, short)
