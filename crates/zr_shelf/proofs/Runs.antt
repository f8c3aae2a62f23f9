-- How a run of calls goes on.
use Rattle.std.proofs.Common.{inl, inr, ℕ, Option, Result, Ok, Err, ◌≡◌, List, [], ◌∷◌, ◌++◌, refl, sym, ◌∙◌, ap, subst, append_assoc}
use Rattle.std.specs.List.{AllByRecursion}
use Rattle.std.proofs.lemmas.List.{append-nil}
use Rattle.zr_shelf.specs.declared.desk.DeskErr.{DeskErr}
use Rattle.zr_shelf.specs.declared.desk.DeskErr.TheVariants.{Failed, NoMemory}
use Rattle.zr_shelf.specs.Disks.{Stand, PendingWrite, IsWritten, flushed, sent_more, taken_to, with_disk}
use Rattle.zr_shelf.specs.Moments.{World, Steps, Throughout, IsStill, Writes, Flushes, Attaches, Takes, Gives}

all_append : (P : Stand → Type 0) (xs ys : List Stand) → AllByRecursion P xs → AllByRecursion P ys → AllByRecursion P (xs ++ ys)
all_append P [] ys h k = k
all_append P (x ∷ xs) ys h k = (h.0, all_append P xs ys h.1 k)

all_weaker : (P Q : Stand → Type 0) (xs : List Stand) → ((s : Stand) → P s → Q s) → AllByRecursion P xs → AllByRecursion Q xs
all_weaker P Q [] f h = tt
all_weaker P Q (x ∷ xs) f h = (f x h.0, all_weaker P Q xs f h.1)

pub started : (P : Stand → Type 0) (w : World) → Throughout P w w
started P w = record { more = []; joins = refl; each = tt }

pub weaker : (P Q : Stand → Type 0) (old new : World) → ((s : Stand) → P s → Q s) → Throughout P old new → Throughout Q old new
weaker P Q old new f h = record { more = h.more; joins = h.joins; each = all_weaker P Q h.more f h.each }

pub joined : (P : Stand → Type 0) (old mid new : World) → Throughout P old mid → Throughout P mid new → Throughout P old new
joined P old mid new a b = record {
  more = b.more ++ a.more;
  joins = b.joins ∙ ap (λ (l : List Stand). b.more ++ l) a.joins ∙ sym (append_assoc b.more a.more (old.now ∷ old.past));
  each = all_append P b.more a.more b.each a.each;
}

pub still : (old new : World) → new ≡ old → IsStill old new
still old new same = record {
  now = ap (λ (w : World). w.now) same;
  since = record { more = []; joins = ap (λ (w : World). w.now ∷ w.past) same; each = tt };
}

module _ (P : Stand → Type 0) (change : Stand → Stand → Type 0) (old mid new : World) where
  -- one call more, after which the shelf stands so
  pub goes_on : Throughout P old mid → Steps change mid new → P new.now → Throughout P old new
  goes_on so_far step here = record {
    more = new.now ∷ so_far.more;
    joins = ap (λ (l : List Stand). new.now ∷ l) (step.past ∙ so_far.joins);
    each = (here, so_far.each);
  }

-- one that changed nothing
pub stays : (P : Stand → Type 0) (old mid new : World) → Throughout P old mid → IsStill mid new → P mid.now → Throughout P old new
stays P old mid new so_far still here =
    joined P old mid new so_far (weaker (λ s. s ≡ mid.now) P mid new (λ s is. subst P (sym is) here) still.since)

module _ (P : Stand → Type 0) (old mid new : World) (so_far : Throughout P old mid) (before : P mid.now) where
  -- a write goes on with what holds before it and, where it wrote, after it
  pub on_write : (w : PendingWrite) (r : Result (Unit {0}) DeskErr) → Writes w r mid new → (IsWritten mid.now w new.now → P new.now) → Throughout P old new
  on_write w (Ok done) call after = goes_on P _ old mid new so_far call (after call.step.0)
  on_write w (Err Failed) call after = goes_on P _ old mid new so_far call (after call.step)
  on_write w (Err NoMemory) call after = stays P old mid new so_far call before

  pub on_flush : (r : Result (Unit {0}) DeskErr) → Flushes r mid new → (new.now ≡ flushed mid.now → P new.now) → Throughout P old new
  on_flush (Ok done) call after = goes_on P _ old mid new so_far call (after call.step)
  on_flush (Err e) call after = stays P old mid new so_far call before

  pub on_give : (bytes : List ℕ) (r : Result (Unit {0}) DeskErr) → Gives bytes r mid new → ((front back : List ℕ) → front ++ back ≡ bytes → P (sent_more mid.now front)) → Throughout P old new
  on_give bytes (Ok done) call after = goes_on P _ old mid new so_far call (subst P (sym call.step) (after bytes [] (append-nil bytes)))
  on_give bytes (Err NoMemory) call after = stays P old mid new so_far call before
  on_give bytes (Err Failed) (inl call) after = stays P old mid new so_far call before
  on_give bytes (Err Failed) (inr call) after =
      goes_on P _ old mid new so_far call (subst P (sym call.step.3) (after call.step.0 call.step.1 call.step.2))

  pub on_attach : (path : List ℕ) (make : Option ℕ) (r : Result ℕ DeskErr) → Attaches path make r mid new → ((bytes : List ℕ) → P (with_disk mid.now path make bytes)) → Throughout P old new
  on_attach path make (Ok slot) call after = goes_on P _ old mid new so_far call (subst P (sym call.step.1) (after call.step.0))
  on_attach path make (Err e) call after = stays P old mid new so_far call before

  pub on_take : (out : List ℕ) (r : Result ℕ DeskErr) → Takes out r mid new → ((left : List ℕ) → P (taken_to mid.now left)) → Throughout P old new
  on_take out (Ok n) call after =
      joined P old mid new so_far (weaker _ P mid new (λ s taken. subst P (sym taken.1) (after taken.0)) call.since)
  on_take out (Err e) call after = stays P old mid new so_far call before

pub still_trans : (a b c : World) → IsStill a b → IsStill b c → IsStill a c
still_trans a b c p q = record {
  now = q.now ∙ p.now;
  since = joined (λ s. s ≡ a.now) a b c p.since (weaker (λ s. s ≡ b.now) (λ s. s ≡ a.now) b c (λ s is. is ∙ p.now) q.since);
}
