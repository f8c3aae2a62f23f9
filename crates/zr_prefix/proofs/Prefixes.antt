-- The objects that are told to be committed last are those of a prefix.
use Rattle.std.proofs.Common.{◌≡◌, inr, Bool, true, false, List, [], ◌∷◌, ◌++◌, Some, None, refl, sym, ◌∙◌, ap, subst}
use Rattle.std.proofs.lemmas.List.{append-nil, append_assoc}
use Rattle.std.specs.FinMap as map
use Rattle.std.specs.List.{AllByRecursion}
use Rattle.zr_command.specs.Meanings.{Disks, Meaning, Run}
use Rattle.zr_model.specs.Objects.{Objects}
use Rattle.zr_model.specs.Runs.{Point, Turn, end_of}
use Rattle.zr_model.specs.State.{PoolState, Is}
use Rattle.zr_pool.specs.Behind.{ComesFrom, TellsOf, is_acknowledged, is_create}
use Rattle.zr_pool.specs.Behind.ComesFrom.{kept, committed, changed, made, found}
use Rattle.zr_pool.specs.Plain.{IsObjectsTurn}
use Rattle.zr_pool.specs.Pools.{DeviceState}
use Rattle.zr_pool.specs.Turns.{IsDeviceTurn, IsTurn, on_devices}
use Rattle.zr_script.specs.declared.reply.Reply.{Reply}
use Rattle.zr_script.specs.declared.reply.Reply.TheVariants as reply
use Rattle.zr_prefix.proofs.Tells.{acknowledged_told, begun_before, leaves_small, made_told, no_way, reset_told}
use Rattle.zr_prefix.specs.Prefix.{IsOfPrefix, MayBeLost}

-- ---- one line more

pub end_more : {S : Type 0} → (p : Point S) (turns : List (Turn S)) (t : Turn S) → end_of p (turns ++ t ∷ []) ≡ t.point
end_more p [] t = refl
end_more p (s ∷ turns) t = end_more s.point turns t

pub run_more : (m : Meaning) (p : Point m.State) (turns : List (Turn m.State)) (t : Turn m.State) → Run m p turns → m.takes (end_of p turns) t → Run m p (turns ++ t ∷ [])
run_more m p [] t run takes = (takes, tt)
run_more m p (s ∷ turns) t run takes = (run.0, run_more m s.point turns t run.1 takes)

all_more : {X : Type 0} → (P : X → Type 0) (xs : List X) (x : X) → AllByRecursion P xs → P x → AllByRecursion P (xs ++ x ∷ [])
all_more P [] x all is = (is, tt)
all_more P (y ∷ xs) x all is = (all.0, all_more P xs x all.1 is)

-- what is told to be committed behind these lines is of a prefix
abbrev Keeps : Point DeviceState → List (Turn DeviceState) → Type 0
Keeps p turns = (objects : Objects) → (end_of p turns).state.behind ≡ Some objects → IsOfPrefix p turns objects

module _ (p : Point DeviceState) (done : List (Turn DeviceState)) (t : Turn DeviceState) (turn : IsDeviceTurn (end_of p done) t) (keeps : Keeps p done) (objects : Objects) (is : t.point.state.behind ≡ Some objects) where
  abbrev old : DeviceState
  old = (end_of p done).state

  -- all lines are held
  whole : TellsOf t.point.state.told.shelf objects → IsOfPrefix p (done ++ t ∷ []) objects
  whole told = record {
    front = done ++ t ∷ [];
    back = [];
    parts = append-nil (done ++ t ∷ []);
    told = subst (λ (q : Point DeviceState). TellsOf q.state.told.shelf objects) (sym (end_more p done t)) told;
    lost = tt;
  }

  -- the last may be lost too
  shorter : MayBeLost t → IsOfPrefix p done objects → IsOfPrefix p (done ++ t ∷ []) objects
  shorter lost h = record {
    front = h.front;
    back = h.back ++ t ∷ [];
    parts = sym (append_assoc h.front h.back (t ∷ [])) ∙ ap (λ (turns : List (Turn DeviceState)). turns ++ t ∷ []) h.parts;
    told = h.told;
    lost = all_more MayBeLost h.back t h.lost lost;
  }

  told_now : TellsOf old.told.shelf objects → IsOfPrefix p done objects
  told_now told = record { front = done; back = []; parts = append-nil done; told = told; lost = tt }

  -- behind a commit that is acknowledged
  held : (q : PoolState) → old.told.shelf ≡ Is q → q.objects ≡ objects → is_acknowledged t.answer t.command ≡ true → IsOfPrefix p (done ++ t ∷ []) objects
  held q told same acknowledged = whole (q, acknowledged_told old.copies t.answer t.command old.told.is_open old.told.shelf (end_of p done).shelf old.told t.point.state.told q told acknowledged turn.objects.0 turn.objects.1, same)

  -- of a pool that was made
  was_made : is_create t.command ≡ true → t.answer ≡ reply.Done → TellsOf t.point.state.told.shelf map.empty
  was_made create answered =
      made_told old.copies t.command old.told.is_open old.told.shelf (end_of p done).shelf old.told t.point.state.told create (subst (λ (a : Reply). IsTurn old.told.is_open t.command a t.point.state.told.is_open) answered turn.objects.0)
      (subst (λ (a : Reply). IsObjectsTurn old.copies old.told.is_open old.told.shelf (end_of p done).shelf old.told t.command a t.point.state.told) answered turn.objects.1)

  by_acknowledged : (b : Bool) → is_acknowledged t.answer t.command ≡ b → ComesFrom old t.command t.answer t.point.state.told.shelf objects → IsOfPrefix p (done ++ t ∷ []) objects
  by_acknowledged true is_so (kept q told leaves off was) = no_way (sym off ∙ is_so)
  by_acknowledged true is_so (committed leaves (q, told, same)) = held q told same is_so
  by_acknowledged false off (kept q told leaves also was) = shorter (record { small = leaves_small old.account t.answer t.command leaves; unacknowledged = off }) (keeps objects was)
  by_acknowledged false off (committed leaves told) = shorter (record { small = leaves_small old.account t.answer t.command leaves; unacknowledged = off }) (told_now told)
  by_acknowledged b which (changed on (q, told, same)) =
      whole (subst (TellsOf t.point.state.told.shelf) same (reset_told old.copies t.command t.answer old.told.is_open old.told.shelf (end_of p done).shelf old.told t.point.state.told q told on turn.objects.0 turn.objects.1))
  by_acknowledged b which (made create answered none) = whole (subst (TellsOf t.point.state.told.shelf) (sym none) (was_made create answered))
  by_acknowledged b which (found imports answered told) = whole told

  step : IsOfPrefix p (done ++ t ∷ []) objects
  step = by_acknowledged (is_acknowledged t.answer t.command) refl (turn.behind.from objects is)

keeps_more : (p : Point DeviceState) (done : List (Turn DeviceState)) (t : Turn DeviceState) → IsDeviceTurn (end_of p done) t → Keeps p done → Keeps p (done ++ t ∷ [])
keeps_more p done t turn keeps objects is = step p done t turn keeps objects (subst (λ (q : Point DeviceState). q.state.behind ≡ Some objects) (end_more p done t) is)

keeps_all : (p : Point DeviceState) (turns done : List (Turn DeviceState)) → Run on_devices (end_of p done) turns → Keeps p done → Keeps p (done ++ turns)
keeps_all p [] done run keeps = subst (Keeps p) (sym (append-nil done)) keeps
keeps_all p (t ∷ turns) done run keeps =
    subst (Keeps p) (append_assoc done (t ∷ []) turns) (keeps_all p turns (done ++ t ∷ []) (subst (λ (q : Point DeviceState). Run on_devices q turns) (sym (end_more p done t)) run.1) (keeps_more p done t run.0 keeps))

-- ---- of a run that begins where nothing is told

pub prefix_told : (p : Point DeviceState) (turns : List (Turn DeviceState)) (objects : Objects) → p.state.behind ≡ None → Run on_devices p turns → (end_of p turns).state.behind ≡ Some objects → IsOfPrefix p turns objects
prefix_told p turns objects none run is = keeps_all p turns [] run (λ all also. let both = sym none ∙ also in absurd cc) objects is

-- ---- of a run in which nothing was written yet

pub begun_told : (p : Point DeviceState) (turns : List (Turn DeviceState)) (first : Disks) → Run on_devices p turns → (end_of p turns).state.begun ≡ Some first → (p.state.begun ≡ Some first) × AllByRecursion MayBeLost turns
begun_told p [] first run is = (is, tt)
begun_told p (t ∷ turns) first run is =
    let rest = begun_told t.point turns first run.1 is in
    let here = begun_before first p.state.begun t.answer t.command (sym run.0.begun ∙ rest.0) in
    (here.0, (record { small = inr (inr here.1); unacknowledged = here.2 }, rest.1))
