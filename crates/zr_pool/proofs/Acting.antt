-- Lines as steps of plain objects.
use Rattle.std.proofs.Common.{◌≡◌, ◌∙◌, ℕ, zero, ◌<◌, ◌≤◌, arith, if◌then◌else◌, List, [], ◌∷◌, ◌++◌, length, replicate, true, false, Option, Some, None, refl, sym, ap, subst}
use Rattle.std.specs.Prelude.{unwrap_or, option_map, Bool, not, map as list_map}
use Rattle.std.specs.FinMap as map
use Rattle.std.proofs.lemmas.List.{length-replicate}
use Rattle.zr_base.specs.declared.refusal.Refusal.{Refusal}
use Rattle.zr_base.specs.declared.refusal.Refusal.TheVariants as refusal
use Rattle.zr_base.specs.declared.space.Condensed.{Condensed}
use Rattle.zr_base.specs.declared.space.Condensed.TheVariants as condensed
use Rattle.zr_script.specs.declared.command.Command.{Command}
use Rattle.zr_script.specs.declared.command.Command.TheVariants as cmd
use Rattle.zr_script.specs.declared.reply.Reply.TheVariants as reply
use Rattle.zr_script.specs.declared.reply.ListLine.{ListLine}
use Rattle.zr_script.specs.declared.reply.StatusLines.{StatusLines}
use Rattle.zr_script.specs.declared.reply.AuditLine.{AuditLine}
use Rattle.zr_script.specs.declared.reply.MapLine.{MapLine}
use Rattle.zr_model.specs.Objects.{Object, Objects, blank, with_bytes, reads_lost, changes_lost, has_lost, object_sum}
use Rattle.zr_model.specs.State.{InService, PoolState, with_objects}
use Rattle.zr_moves.specs.Answers.{leave_at, of_object, with_devs, with_saved}
use Rattle.zr_change.specs.declared.ranges.Edit.{Edit}
use Rattle.zr_held.specs.Steps.{IsObjectOf}
use Rattle.zr_lines.specs.Reads.{IsReadOf}
use Rattle.zr_base.specs.declared.space.Policy.{Policy}
use Rattle.zr_shelf.specs.Counts.{Counts}
use Rattle.zr_shelf.specs.Moments.{World}
use Rattle.zr_sync.specs.declared.open.OpenPool.{OpenPool}
use Rattle.zr_last.specs.Last.{KeepsRoot}
use Rattle.zr_removal.specs.Condensing.{CondensesPool}
use Rattle.zr_removal.specs.Steps.{StepsOn}
use Rattle.zr_removal.specs.Turns.{CancelsRemoval, EndsRemoval}
use Rattle.zr_removal.specs.declared.evacuate.Evacuated.{Evacuated}
use Rattle.zr_removal.specs.declared.evacuate.Evacuated.TheVariants.{Copied, Gone, Cancelled}
use Rattle.zr_pool.specs.Behind.{copies_or_returns, is_return}
use Rattle.zr_pool.specs.Plain.{IsBeyond, IsMissing, IsObjectCause, IsPlainOf, IsPlainOn, IsThere, is_background}
use Rattle.zr_pool.specs.Replies.{condense_reply, evac_reply}

pub plain_refusal : (objects : Objects) (command : Command) (r : Refusal) → (r ≡ refusal.NoSuchObject → IsMissing objects command) → (r ≡ refusal.OutOfRange → IsBeyond objects command) → (r ≡ refusal.ObjectExists → IsThere objects command)
    → IsObjectCause objects command r
plain_refusal objects command refusal.NoSuchObject a b c = a refl
plain_refusal objects command refusal.OutOfRange a b c = b refl
plain_refusal objects command refusal.ObjectExists a b c = c refl
plain_refusal objects command r a b c = tt

tested : (p : PoolState) (id : ℕ) (o : Object) (test : Object → Bool) → map.get p.objects id ≡ Some o → test o ≡ false → of_object p id test ≡ false
tested p id o test found fails = ap (λ (x : Option Object). unwrap_or (option_map test x) false) found ∙ fails

-- the object has these bytes from now on, and no lost block was changed in part
pub record IsChangedBy (Holds : PoolState → Type 0) (p : PoolState) (id off : ℕ) (bytes : List ℕ) : Type 0 where
  pub o : Object
  pub found : map.get p.objects id ≡ Some o
  pub whole : changes_lost o off (length bytes) ≡ false
  pub holds : Holds (with_objects p (map.insert p.objects id (with_bytes o off bytes)))

module _ (Holds : PoolState → Type 0) (p : PoolState) where
  pub made_on : (id units : ℕ) → Holds (with_objects p (map.insert p.objects id (blank units))) → IsPlainOn Holds p (cmd.Make id units) reply.Done
  made_on id units h = let q = with_objects p (map.insert p.objects id (blank units)) in record { after = q; holds = h; step = (refl, refl) }

  pub dropped_on : (id : ℕ) → IsObjectOf p.objects id (λ o. Holds (with_objects p (map.remove p.objects id))) → IsPlainOn Holds p (cmd.Drop id) reply.Done
  dropped_on id h = let q = with_objects p (map.remove p.objects id) in record { after = q; holds = h.2; step = (refl, refl) }

  pub read_on : (id off len : ℕ) (bytes : List ℕ) → IsObjectOf p.objects id (IsReadOf off len bytes) → Holds p → IsPlainOn Holds p (cmd.Read id off len) (reply.Data bytes)
  read_on id off len bytes o h = record { after = p; holds = h; step = ((o.0, o.1, o.2.are, refl), tested p id o.0 (λ x. reads_lost x off len) o.1 o.2.whole) }

  pub sum_on : (id : ℕ) (sum : List ℕ) → IsObjectOf p.objects id (λ o. (has_lost o ≡ false) × (sum ≡ object_sum o)) → Holds p → IsPlainOn Holds p (cmd.Sum id) (reply.Sum sum)
  sum_on id sum o h = record { after = p; holds = h; step = ((o.0, o.1, o.2.1, refl), tested p id o.0 has_lost o.1 o.2.0) }

  pub written_on : (id off : ℕ) (bytes : List ℕ) → IsChangedBy Holds p id off bytes → IsPlainOn Holds p (cmd.Write id off bytes) reply.Done
  written_on id off bytes c = record { after = (with_objects p (map.insert p.objects id (with_bytes c.o off bytes))); holds = c.holds; step = ((c.o, c.found, refl), tested p id c.o (λ x. changes_lost x off (length bytes)) c.found c.whole) }

  pub filled_on : (id off len byte : ℕ) → IsChangedBy Holds p id off (replicate len byte) → IsPlainOn Holds p (cmd.Fill id off len byte) reply.Done
  filled_on id off len byte c =
      let whole = subst (λ (n : ℕ). changes_lost c.o off n ≡ false) (length-replicate len byte) c.whole in
      record { after = (with_objects p (map.insert p.objects id (with_bytes c.o off (replicate len byte)))); holds = c.holds; step = ((c.o, c.found, refl), tested p id c.o (λ x. changes_lost x off len) c.found whole) }

  pub punched_on : (id off len : ℕ) → IsChangedBy Holds p id off (replicate len zero) → IsPlainOn Holds p (cmd.Punch id off len) reply.Done
  punched_on id off len c =
      let whole = subst (λ (n : ℕ). changes_lost c.o off n ≡ false) (length-replicate len zero) c.whole in
      record { after = (with_objects p (map.insert p.objects id (with_bytes c.o off (replicate len zero)))); holds = c.holds; step = ((c.o, c.found, refl), tested p id c.o (λ x. changes_lost x off len) c.found whole) }

  pub changed_by : (id off : ℕ) (bytes : List ℕ) (e : Edit) (In : Object → Type 0) → e.off ≡ off
      → IsObjectOf p.objects id (λ o. In o × (changes_lost o e.off (length bytes) ≡ false) × Holds (with_objects p (map.insert p.objects id (with_bytes o e.off bytes)))) → IsChangedBy Holds p id off bytes
  changed_by id off bytes e In at h = record {
    o = h.0;
    found = h.1;
    whole = subst (λ (n : ℕ). changes_lost h.0 n (length bytes) ≡ false) at h.2.1;
    holds = subst (λ (n : ℕ). Holds (with_objects p (map.insert p.objects id (with_bytes h.0 n bytes)))) at h.2.2;
  }

module _ (copies : Bool) (Holds : PoolState → Type 0) (p : PoolState) where
  pub synced_as : (command : Command) (txg : ℕ) → command ≡ cmd.Sync → Holds p → IsPlainOf copies Holds p command (reply.Synced txg)
  synced_as command txg is h = subst (λ (k : Command). IsPlainOf copies Holds p k (reply.Synced txg)) (sym is) (record { after = p; holds = h; step = (refl, refl) })

  pub added_as : (command : Command) (dev : List ℕ) → command ≡ cmd.Add dev → Holds (with_devs p (p.devs ++ InService dev ∷ [])) → IsPlainOf copies Holds p command reply.Done
  added_as command dev is h =
      let q = with_devs p (p.devs ++ InService dev ∷ []) in
      subst (λ (k : Command). IsPlainOf copies Holds p k reply.Done) (sym is) (record { after = q; holds = h; step = (refl, refl) })

  pub removed_as : (command : Command) (dev : List ℕ) → command ≡ cmd.Remove dev → Holds (with_devs p (list_map (leave_at dev) p.devs)) → IsPlainOf copies Holds p command reply.Done
  removed_as command dev is h =
      let q = with_devs p (list_map (leave_at dev) p.devs) in
      subst (λ (k : Command). IsPlainOf copies Holds p k reply.Done) (sym is) (record { after = q; holds = h; step = (refl, refl) })

  pub listed_as : (command : Command) (lines : List ListLine) → command ≡ cmd.List → Holds p → IsPlainOf copies Holds p command (reply.List lines)
  listed_as command lines is h = subst (λ (k : Command). IsPlainOf copies Holds p k (reply.List lines)) (sym is) (record { after = p; holds = h; step = (refl, refl) })

  pub status_as : (command : Command) (lines : StatusLines) → command ≡ cmd.Status → Holds p → IsPlainOf copies Holds p command (reply.Status lines)
  status_as command lines is h = subst (λ (k : Command). IsPlainOf copies Holds p k (reply.Status lines)) (sym is) (record { after = p; holds = h; step = (refl, refl) })

  pub audited_as : (command : Command) (lines : List AuditLine) → command ≡ cmd.Audit → Holds p → IsPlainOf copies Holds p command (reply.Audit lines)
  audited_as command lines is h = subst (λ (k : Command). IsPlainOf copies Holds p k (reply.Audit lines)) (sym is) (record { after = p; holds = h; step = (refl, refl) })

  pub estimated_as : (command : Command) (dev : List ℕ) (bytes : ℕ) → command ≡ cmd.Estimate dev → Holds p → IsPlainOf copies Holds p command (reply.Estimate bytes)
  estimated_as command dev bytes is h = subst (λ (k : Command). IsPlainOf copies Holds p k (reply.Estimate bytes)) (sym is) (record { after = p; holds = h; step = (refl, refl) })

  pub mapped_as : (command : Command) (index : ℕ) (lines : List MapLine) → command ≡ cmd.Map index → Holds p → IsPlainOf copies Holds p command (reply.Map lines)
  mapped_as command index lines is h = subst (λ (k : Command). IsPlainOf copies Holds p k (reply.Map lines)) (sym is) (record { after = p; holds = h; step = (refl, refl) })

  pub saved_as : (command : Command) → command ≡ cmd.Checkpoint → Holds (with_saved p (Some (record { objects = p.objects; devs = p.devs })) false) → IsPlainOf copies Holds p command reply.Done
  saved_as command is h =
      let q = with_saved p (Some (record { objects = p.objects; devs = p.devs })) false in
      subst (λ (k : Command). IsPlainOf copies Holds p k reply.Done) (sym is) (record { after = q; holds = h; step = (refl, refl) })

  pub given_up_as : (command : Command) → command ≡ cmd.Discard → Holds (with_saved p None true) → IsPlainOf copies Holds p command reply.Done
  given_up_as command is h =
      let q = with_saved p None true in
      subst (λ (k : Command). IsPlainOf copies Holds p k reply.Done) (sym is) (record { after = q; holds = h; step = (refl, refl) })

  pub upgraded_as : (command : Command) → command ≡ cmd.Upgrade → Holds p → IsPlainOf copies Holds p command reply.Done
  upgraded_as command is h = subst (λ (k : Command). IsPlainOf copies Holds p k reply.Done) (sym is) (record { after = p; holds = h; step = (refl, refl) })

  pub stepped_as : (command : Command) (units : ℕ) (b : Bool) → command ≡ cmd.StepDiscard → (b ≡ false → 0 < units) → Holds (if b then with_saved p p.saved false else p) → IsPlainOf copies Holds p command (if b then reply.Ended else reply.Freed units)
  stepped_as command units true is some h =
      let q = with_saved p p.saved false in
      subst (λ (k : Command). IsPlainOf copies Holds p k reply.Ended) (sym is) (record { after = q; holds = h; step = (refl, refl) })
  stepped_as command units false is some h =
      let lt = some refl in
      subst (λ (k : Command). IsPlainOf copies Holds p k (reply.Freed units)) (sym is) (record { after = p; holds = h; step = ((omega (arith, lt), refl), refl) })

-- ---- replies to steps of a removal

-- a removal that was given up leaves how the checkpoint stands
pub back_ckpt : (sizes : List ℕ) (told : Type 0) (now : World) (x y : OpenPool) (d : ℕ) → CancelsRemoval sizes told now x y d → y.space.parts.ckpt ≡ x.space.parts.ckpt
back_ckpt sizes told now x y d h = h.same.ckpt ∙ (h.comes.streams.rows.ckpt ∙ h.comes.cancels.elsewhere.ckpt)

-- so does one that ended
pub gone_ckpt : (sizes : List ℕ) (told : Type 0) (now : World) (x y : OpenPool) (d : ℕ) → EndsRemoval sizes told now x y d → y.space.parts.ckpt ≡ x.space.parts.ckpt
gone_ckpt sizes told now x y d h = ap (λ (pool : OpenPool). pool.space.parts.ckpt) h.forgets.rest ∙ (h.same.ckpt ∙ (h.vanishes.streams.rows.ckpt ∙ (h.vanishes.finishes.elsewhere.ckpt ∙ h.vanishes.gives.others.rows.ckpt)))

-- a step leaves the objects; of one that ends the removal they are told where copies are told to have the bytes of their units
pub evac_acts : (copies : Bool) (policy : Policy) (sizes : List ℕ) (told : Type 0) (c1 c2 : Counts) (w1 w2 : World) (x y : OpenPool) (Holds : PoolState → Type 0) (p : PoolState) (done : Evacuated) → StepsOn policy sizes told c1 c2 w1 w2 x y done
    → (y.space.parts.ckpt ≡ x.space.parts.ckpt → (n : ℕ) → done ≡ Copied n → Holds p) → (y.space.parts.ckpt ≡ x.space.parts.ckpt → (d : ℕ) → done ≡ Cancelled d → Holds p)
    → (copies ≡ true → y.space.parts.ckpt ≡ x.space.parts.ckpt → (d : ℕ) → done ≡ Gone d → Holds p) → IsPlainOf copies Holds p cmd.StepEvac (evac_reply done)
evac_acts copies policy sizes told c1 c2 w1 w2 x y Holds p (Copied n) steps holds returns ends =
    let plan = steps.plans.plan in
    let some = plan.some in
    let few = plan.few in
    let units = steps.units in
    record { after = p; holds = holds steps.makes.elsewhere.ckpt n refl; step = ((omega (arith, some, units), omega (arith, few, units), refl), refl) }
evac_acts false policy sizes told c1 c2 w1 w2 x y Holds p (Gone index) steps holds returns ends = tt
evac_acts true policy sizes told c1 c2 w1 w2 x y Holds p (Gone index) steps holds returns ends =
    record { after = p; holds = ends refl (gone_ckpt sizes told w2 steps.tried y index steps.ends ∙ ap (λ (pool : OpenPool). pool.space.parts.ckpt) steps.same) index refl; step = (record { objects = refl; saved = refl; discarding = refl }, refl) }
evac_acts copies policy sizes told c1 c2 w1 w2 x y Holds p (Cancelled index) steps holds returns ends =
    record { after = p; holds = returns (back_ckpt sizes told w2 steps.tried y index steps.cancels ∙ ap (λ (pool : OpenPool). pool.space.parts.ckpt) steps.same) index refl; step = (record { objects = refl; saved = refl; discarding = refl }, refl) }

pub evac_copies : (P : Type 0) (done : Evacuated) → ((n : ℕ) → done ≡ Copied n → P) → is_background cmd.StepEvac (evac_reply done) ≡ true → P
evac_copies P (Copied n) copies on = copies n refl
evac_copies P (Gone index) copies on = absurd (let no_way : false ≡ true = on in cc)
evac_copies P (Cancelled index) copies on = absurd (let no_way : false ≡ true = on in cc)

pub evac_moves : (P : Type 0) (done : Evacuated) → ((n : ℕ) → done ≡ Copied n → P) → ((d : ℕ) → done ≡ Cancelled d → P) → copies_or_returns cmd.StepEvac (evac_reply done) ≡ true → P
evac_moves P (Copied n) copies returns on = copies n refl
evac_moves P (Gone index) copies returns on = absurd (let no_way : false ≡ true = on in cc)
evac_moves P (Cancelled index) copies returns on = returns index refl

pub evac_shows : (P : Type 0) (done : Evacuated) → ((n : ℕ) → done ≡ Copied n → P) → ((d : ℕ) → done ≡ Cancelled d → P) → ((d : ℕ) → done ≡ Gone d → P) → P
evac_shows P (Copied n) copies returns ends = copies n refl
evac_shows P (Gone index) copies returns ends = ends index refl
evac_shows P (Cancelled index) copies returns ends = returns index refl

pub evac_returns : (P : Type 0) (done : Evacuated) (command : Command) → ((d : ℕ) → done ≡ Cancelled d → P) → is_return (evac_reply done) command ≡ true → P
evac_returns P (Copied n) command returns on = absurd (let no_way : false ≡ true = on in cc)
evac_returns P (Gone index) command returns on = absurd (let no_way : false ≡ true = on in cc)
evac_returns P (Cancelled index) command returns on = returns index refl

pub condense_no_return : (done : Condensed) (command : Command) → is_return (condense_reply done) command ≡ true → ⊥
condense_no_return (condensed.Kept entries) command on = let no_way : false ≡ true = on in cc
condense_no_return condensed.Done command on = let no_way : false ≡ true = on in cc
condense_no_return condensed.Nothing command on = let no_way : false ≡ true = on in cc

pub condense_no_move : (done : Condensed) → copies_or_returns cmd.StepCondense (condense_reply done) ≡ true → ⊥
condense_no_move (condensed.Kept entries) on = let no_way : false ≡ true = on in cc
condense_no_move condensed.Done on = let no_way : false ≡ true = on in cc
condense_no_move condensed.Nothing on = let no_way : false ≡ true = on in cc

-- a step of condensing leaves the objects
pub condense_acts : (copies : Bool) (Holds : PoolState → Type 0) (p : PoolState) (done : Condensed) → Holds p → IsPlainOf copies Holds p cmd.StepCondense (condense_reply done)
condense_acts copies Holds p (condensed.Kept entries) h = record { after = p; holds = h; step = (refl, refl) }
condense_acts copies Holds p condensed.Done h = record { after = p; holds = h; step = (refl, refl) }
condense_acts copies Holds p condensed.Nothing h = record { after = p; holds = h; step = (refl, refl) }

-- it goes on from the root from which the pool went on
pub condensed_root : (x y : OpenPool) (done : Condensed) → CondensesPool x y done → KeepsRoot x y
condensed_root x y done h =
    let rest = h.mapping.rest in
    record { last = ap (λ (p : OpenPool). p.last) rest; guid = ap (λ (p : OpenPool). p.guid) rest; table = ap (λ (p : OpenPool). p.table) rest }
