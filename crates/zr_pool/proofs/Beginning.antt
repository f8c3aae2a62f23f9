-- Disks on which nothing was written since a run began.
use Rattle.std.proofs.Common.{◌≡◌, ◌⊎◌, inl, inr, ℕ, List, length, map, Option, Some, None, Result, Ok, Err, refl, sym, ◌∙◌, ap, subst}
use Rattle.std.specs.Prelude.{IfOk, IfSome, OnErr, OnOk}
use Rattle.zr_base.specs.declared.refusal.Refusal.{Refusal}
use Rattle.zr_command.specs.Meanings.{Disks, disks_of}
use Rattle.zr_create.specs.Making.{MakesBehind, MakesInPart}
use Rattle.zr_create.specs.Refusals.{ChecksNew}
use Rattle.zr_image.specs.Current.{ShowsAll}
use Rattle.zr_image.specs.Honest.{IsLeft}
use Rattle.zr_open.proofs.Flushing.{flushes_read, flushes_still, rests_still}
use Rattle.zr_open.specs.Flushed.{FlushesOnly}
use Rattle.zr_scan.specs.declared.error.ScanErr.{ScanErr}
use Rattle.zr_script.specs.declared.reply.Reply.{Reply}
use Rattle.zr_script.specs.declared.reply.Reply.TheVariants as reply
use Rattle.zr_shelf.proofs.Doings.{kept_throughout}
use Rattle.zr_shelf.proofs.Guards.{does_still}
use Rattle.zr_shelf.proofs.Runs.{still as unmoved}
use Rattle.zr_shelf.specs.Disks.{IsAtRest, Stand}
use Rattle.zr_shelf.specs.Doings.{Follows}
use Rattle.zr_shelf.specs.Doings.Follows.{stood, wrote, flush}
use Rattle.zr_shelf.specs.Moments.{IsStill, Throughout, World}
use Rattle.zr_slots.specs.Checks.{MayCreateOn}
use Rattle.zr_sync.specs.declared.fault.Fault.{Fault}
use Rattle.zr_sync.specs.declared.fault.Fault.TheVariants.{No, Stops}
use Rattle.zr_sync.specs.declared.open.OpenPool.{OpenPool}
use Rattle.zr_pool.specs.Behind.{IsOfBeginning, StopsInCreate, begun_behind}
use Rattle.zr_pool.specs.Ends.{answer_of}
use Rattle.zr_pool.specs.Pools.{DeviceState, IsAsBegun, IsUnwritten, settled, stand_of}

-- ---- flushes alone

pub unwritten_more : (first a b : Disks) → IsUnwritten first a → IsUnwritten a b → IsUnwritten first b
unwritten_more first a b h (inl same) = subst (IsUnwritten first) (sym same) h
unwritten_more first a b (inl was) (inr same) = inr (same ∙ ap settled was)
unwritten_more first a b (inr was) (inr same) = inr (same ∙ ap settled was)

flushed_step : (first : Disks) (a b : Stand) → Follows (λ _. ⊥) a b → IsUnwritten first (disks_of a) → IsUnwritten first (disks_of b)
flushed_step first a b (stood is) h = subst (λ (s : Stand). IsUnwritten first (disks_of s)) (sym is) h
flushed_step first a b (wrote w never written) h = absurd never
flushed_step first a b (flush is) h = unwritten_more first (disks_of a) (disks_of b) h (inr (ap disks_of is))

-- at each moment, and behind them
pub flushes_unwritten : (old new : World) → FlushesOnly old new → Throughout (λ s. IsUnwritten (disks_of old.now) (disks_of s)) old new × IsUnwritten (disks_of old.now) (disks_of new.now)
flushes_unwritten old new flushes = kept_throughout (λ s. IsUnwritten (disks_of old.now) (disks_of s)) (λ _. ⊥) (flushed_step (disks_of old.now)) old new flushes (inl refl)

pub flushes_nothing : (w : World) → FlushesOnly w w
flushes_nothing w = does_still (λ _. ⊥) w w (unmoved w w refl)

-- what a crash leaves of them it may have left before
pub of_beginning : (first disks : Disks) (image : List (List ℕ)) → IsUnwritten first disks → IsLeft (stand_of disks) image → IsOfBeginning first image
of_beginning first disks image (inl same) left = inl (subst (λ (d : Disks). IsLeft (stand_of d) image) same left)
of_beginning first disks image (inr same) left = inr (subst (λ (d : Disks). IsLeft (stand_of d) image) same left)

-- ---- a pool that is made behind a flush

stops_in_create : (sizes read named : List ℕ) (old settled_there new : World) → read ≡ sizes → FlushesOnly old settled_there → IsAtRest settled_there.now → MakesInPart read named settled_there new → StopsInCreate sizes old new
stops_in_create sizes read named old at new same flushes rest (start, still, inl nothing) = inl (flushes_still old start new (flushes_still old at start flushes still) nothing)
stops_in_create sizes read named old at new same flushes rest (start, still, inr makes) = inr (start, named, flushes_still old at start flushes still, rests_still at start rest still, subst (λ (n : List ℕ). MakesBehind n named start new) same makes)

pub made_stops : (done : Unit {0}) (result : Result (Unit {0}) ScanErr) (sizes read named : List ℕ) (old at new : World) → result ≡ Ok done → read ≡ sizes → FlushesOnly old at → OnOk result (IsAtRest at.now) → MakesInPart read named at new → StopsInCreate sizes old new
made_stops done result sizes read named old at new ok same flushes rest makes = stops_in_create sizes read named old at new same flushes (subst (λ (r : Result (Unit {0}) ScanErr). OnOk r (IsAtRest at.now)) ok rest) makes

-- the slots were looked at behind a flush
pub checks_before : (sizes read : List ℕ) (tells told : Type 0) (disks seen : List (List ℕ)) (version guid : ℕ) (named : List ℕ) (outcome : Result (Unit {0}) Refusal) → read ≡ sizes → (tells → told) → seen ≡ disks → ChecksNew read told seen version guid named outcome → ChecksNew sizes tells disks version guid named outcome
checks_before sizes read tells told disks seen version guid named outcome same goes is h = record {
  seen = h.seen;
  shown = record {
    count = h.shown.count ∙ ap (λ (n : List ℕ). length n) same;
    lawful = h.shown.lawful;
    shows = λ t. subst (λ (d : List (List ℕ)). ShowsAll d h.seen) is (h.shown.shows (goes t));
  };
  checks = subst (λ (n : List ℕ). MayCreateOn n h.seen version guid named outcome) same h.checks;
}

pub allowed_before : {A E : Type 0} → (sizes read : List ℕ) (tells told : Type 0) (disks seen : List (List ℕ)) (version guid : ℕ) (named : List ℕ) → read ≡ sizes → (tells → told) → seen ≡ disks → (r : Result A E) → OnOk r (ChecksNew read told seen version guid named (Ok tt)) → OnOk r (ChecksNew sizes tells disks version guid named (Ok tt))
allowed_before sizes read tells told disks seen version guid named same goes is (Ok a) h = checks_before sizes read tells told disks seen version guid named (Ok tt) same goes is h
allowed_before sizes read tells told disks seen version guid named same goes is (Err e) h = tt

-- ---- whether nothing was written behind a line

module _ (old new : World) (before : DeviceState) where
  abbrev IsBegunBehind : Option OpenPool → Reply → Type 0
  IsBegunBehind pool answer = IfSome (begun_behind before.begun answer) (IsAsBegun pool (disks_of new.now))

  done_begun : (pool : Option OpenPool) (answer : Reply) → answer ≡ reply.Done → IsBegunBehind pool answer
  done_begun pool answer done = subst (IsBegunBehind pool) (sym done) tt

  refused_begun : (begun : Option Disks) → IfSome begun (IsAsBegun None (disks_of old.now)) → FlushesOnly old new → IfSome begun (IsAsBegun None (disks_of new.now))
  refused_begun None was flushes = tt
  refused_begun (Some first) was flushes = (refl, unwritten_more first (disks_of old.now) (disks_of new.now) was.1 (flushes_unwritten old new flushes).1)

  pub closed_begun : (pool : Option OpenPool) → IfSome before.begun (IsAsBegun None (disks_of old.now)) → (r : Result (Option Reply) Fault) → IfOk r (λ answered. IfSome answered (λ answer. answer ≡ reply.Done)) → ((n : Refusal) → r ≡ Err (No n) → FlushesOnly old new) → OnErr r (pool ≡ None)
      → IfOk (answer_of r) (λ answered. IfSome answered (λ answer. IsBegunBehind pool answer))
  closed_begun pool was (Ok None) done flushes closed = tt
  closed_begun pool was (Ok (Some answer)) done flushes closed = done_begun pool answer done
  closed_begun pool was (Err (No n)) done flushes closed = subst (λ (o : Option OpenPool). IsBegunBehind o (reply.No n)) (sym closed) (refused_begun before.begun was (flushes n refl))
  closed_begun pool was (Err (Stops s)) done flushes closed = tt

  -- of an open pool it is not told any more
  open_none : (x : OpenPool) (begun : Option Disks) → IfSome begun (IsAsBegun (Some x) (disks_of old.now)) → begun ≡ None
  open_none x None was = refl
  open_none x (Some first) was = let some : Some x ≡ None = was.0 in absurd cc

  none_behind : (answer : Reply) (pool : Option OpenPool) → IfSome (begun_behind None answer) (IsAsBegun pool (disks_of new.now))
  none_behind (reply.No r) pool = tt
  none_behind answer pool = tt

  open_answer : (x : OpenPool) (pool : Option OpenPool) → IfSome before.begun (IsAsBegun (Some x) (disks_of old.now)) → (answer : Reply) → IsBegunBehind pool answer
  open_answer x pool was answer = subst (λ (begun : Option Disks). IfSome (begun_behind begun answer) (IsAsBegun pool (disks_of new.now))) (sym (open_none x before.begun was)) (none_behind answer pool)

  pub open_begun : (x : OpenPool) (pool : Option OpenPool) → IfSome before.begun (IsAsBegun (Some x) (disks_of old.now)) → (r : Result (Option Reply) Fault) → IfOk (answer_of r) (λ answered. IfSome answered (λ answer. IsBegunBehind pool answer))
  open_begun x pool was (Ok None) = tt
  open_begun x pool was (Ok (Some answer)) = open_answer x pool was answer
  open_begun x pool was (Err (No n)) = open_answer x pool was (reply.No n)
  open_begun x pool was (Err (Stops s)) = tt
