-- The account of a pool beside what is told of its objects.
use Rattle.std.proofs.Common.{◌≡◌, ℕ, List, Bool, true, false, length, map, Option, Some, None, Result, Ok, Err, refl, sym, subst}
use Rattle.std.specs.Prelude.{IfOk, IfSome, IsSomeAnd, OnOk, OnErr, is_some, if◌then◌else◌}
use Rattle.zr_base.specs.declared.refusal.Refusal.{Refusal}
use Rattle.zr_command.specs.Meanings.{TurnsTo, disks_of}
use Rattle.zr_command.specs.declared.pool.Stop as model
use Rattle.zr_model.specs.State.{ShelfPart, State}
use Rattle.zr_script.specs.declared.command.Command.{Command}
use Rattle.zr_script.specs.declared.command.Command.TheVariants as cmd
use Rattle.zr_script.specs.declared.reply.Reply.{Reply}
use Rattle.zr_script.specs.declared.reply.Reply.TheVariants as reply
use Rattle.zr_shelf.specs.Disks.{Stand}
use Rattle.zr_shelf.specs.Moments.{World}
use Rattle.zr_sync.specs.Pools.{IsOpen}
use Rattle.zr_sync.specs.declared.fault.Fault.{Fault}
use Rattle.zr_sync.specs.declared.fault.Fault.TheVariants.{No, Stops}
use Rattle.zr_sync.specs.declared.open.OpenPool.{OpenPool}
use Rattle.zr_pool.specs.Accounts.{Begins, BeginsNone, Refuses, Turns}
use Rattle.zr_pool.specs.Behind.{begun_behind}
use Rattle.zr_pool.specs.Ends.{answer_of, is_closing}
use Rattle.zr_pool.specs.Plain.{shelf_of}
use Rattle.zr_pool.specs.Pools.{AreCopied, AreCurrent, AreStanding, DeviceState, IsAsBegun, IsPartOf, StandsFor, Stands}
use Rattle.zr_pool.specs.Turns.{on_devices, on_objects_told, IsAccountTurn, IsOpenAnswer, SpaceTurn, IsTurn, is_copied, is_current, is_found, is_shown, is_standing, sizes_of, stays_open}
use Rattle.zr_pool.proofs.Behind.{Behinds}
use Rattle.zr_pool.proofs.Shown.{Lasts}
use Rattle.zr_pool.proofs.Turning.{left_of}

-- ---- what is told, with the account beside it

module _ (old new : Stand) (before : DeviceState) (command : Command) (pool : Option OpenPool) where
  -- the objects that are told lead to some state
  abbrev pub Tells : Reply → Type 0
  Tells answer = TurnsTo (on_objects_told before.copies) (λ disks state. StandsFor pool disks.seen state) before.told old command answer new

  -- and so does all that is told
  abbrev pub Leads : Reply → Type 0
  Leads answer = TurnsTo on_devices (λ disks state. Stands pool disks state) before old command answer new

  -- the account leads to that of the pool, which is lawful
  pub record Accounts (answer : Reply) : Type 0 where
    pub turn : IsAccountTurn (shelf_of old) before.account command answer (shelf_of new) pool
    pub lawful : IfSome pool (IsOpen (sizes_of new.seen))

-- what a state tells of the objects is held by the pool that stands for it
part_held : (pool : Option OpenPool) (disks : List (List ℕ)) (state : State) → StandsFor pool disks state → IfSome pool (λ y. IsPartOf disks y state.shelf)
part_held None disks state stands = tt
part_held (Some y) disks state stands = stands.part

module _ (old : Stand) (world : World) (before : DeviceState) (command : Command) (pool : Option OpenPool) where
  -- what is told of the objects is held
  abbrev pub IsHeld : ShelfPart → Type 0
  IsHeld part = IfSome pool (λ y. IsPartOf world.now.seen y part)

  -- the trees of the streams stand where they are told to
  abbrev pub IsStanding : Reply → Type 0
  IsStanding answer = is_standing before.told.is_open before.told.shelf before.trees command answer ≡ true → AreStanding pool world.now.seen

  -- the slots show the last root where they are told to
  abbrev pub IsCurrent : Reply → Type 0
  IsCurrent answer = is_current before.told.is_open before.told.shelf before.current command answer ≡ true → AreCurrent pool world.now.seen

  -- copies have the bytes of their units where they are told to
  abbrev pub IsCopied : Reply → Type 0
  IsCopied answer = is_copied before.told.is_open before.told.shelf before.copies command answer pool ≡ true → AreCopied pool world.now.seen

  with_account : (answer : Reply) → Tells old world.now before command pool answer → Accounts old world.now before command pool answer → SpaceTurn before command pool → Lasts old world.now before command pool answer → IsStanding answer → IsCurrent answer → IsCopied answer → ((part : ShelfPart) → IsHeld part → Behinds world before command part pool answer)
      → IfSome (begun_behind before.begun answer) (IsAsBegun pool (disks_of world.now)) → Leads old world.now before command pool answer
  with_account answer t a spaces l standing current copied behinds begun =
      let b = behinds t.after.shelf (part_held pool world.now.seen t.after t.stands_for) in
      record {
        after = record { told = t.after; account = pool; shown = is_shown before.told.is_open before.shown answer; trees = is_standing before.told.is_open before.told.shelf before.trees command answer; behind = b.behind; begun = begun_behind before.begun answer; current = is_current before.told.is_open before.told.shelf before.current command answer; found = is_found before.account before.trees before.current before.found command answer; copies = is_copied before.told.is_open before.told.shelf before.copies command answer pool };
        stands_for = record { told = t.stands_for; account = refl; shown = l.last t.after t.takes; trees = standing; behind = b.stands; begun = begun; current = current; found = b.found; copies = copied };
        takes = record { objects = t.takes; account = a.turn; spaces = spaces; lawful = a.lawful; shown = refl; trees = refl; behind = b.turn; begun = refl; current = refl; found = refl; copies = refl; rejoined = l.rejoined t.after t.takes; found_again = l.found_again t.after t.takes };
      }

  pub each_with_account : (q : Result (Option Reply) model.Stop) → IfOk q (λ found. IfSome found (λ answer. Tells old world.now before command pool answer)) → IfOk q (λ found. IfSome found (λ answer. Accounts old world.now before command pool answer)) → IfOk q (λ found. IfSome found (λ answer. SpaceTurn before command pool))
      → IfOk q (λ found. IfSome found (λ answer. Lasts old world.now before command pool answer)) → IfOk q (λ found. IfSome found IsStanding) → IfOk q (λ found. IfSome found IsCurrent) → IfOk q (λ found. IfSome found IsCopied) → ((part : ShelfPart) → IsHeld part → IfOk q (λ found. IfSome found (λ answer. Behinds world before command part pool answer)))
      → IfOk q (λ found. IfSome found (λ answer. IfSome (begun_behind before.begun answer) (IsAsBegun pool (disks_of world.now)))) → IfOk q (λ found. IfSome found (λ answer. Leads old world.now before command pool answer))
  each_with_account (Ok None) t a spaces l s current copied b begun = tt
  each_with_account (Ok (Some answer)) t a spaces l s current copied b begun = with_account answer t a spaces l s current copied b begun
  each_with_account (Err e) t a spaces l s current copied b begun = tt

-- ---- where a pool is open

-- it is closed by an export that is done, and so is the account
closes : (command : Command) (answer : Reply) (y : OpenPool) → IsOpenAnswer command answer → left_of (is_closing command (Ok (Some answer))) y ≡ (if stays_open command answer then Some y else None)
closes cmd.Export reply.Done y a = refl
closes cmd.Export answer y a = absurd a
closes command answer y a = refl

stays_no : (command : Command) (r : Refusal) (y : OpenPool) → Some y ≡ (if stays_open command (reply.No r) then Some y else None)
stays_no cmd.Export r y = refl
stays_no command r y = refl

lawful_left : (sizes : List ℕ) (closing : Bool) (y : OpenPool) → IsOpen sizes y → IfSome (left_of closing y) (IsOpen sizes)
lawful_left sizes true y lawful = tt
lawful_left sizes false y lawful = lawful

-- the same turn of a pool on disks of sizes that are the same
resized : (paths : List (List ℕ)) (s t : List ℕ) → s ≡ t → (disks after : List (List ℕ)) (x y : OpenPool) (command : Command) (answer : Reply) → Turns paths s disks x command answer after y → Turns paths t disks x command answer after y
resized paths s t same disks after x y command answer h = subst (λ (sizes : List ℕ). Turns paths sizes disks x command answer after y) same h

module _ (old new : Stand) (before : DeviceState) (command : Command) (x y : OpenPool) (account : before.account ≡ Some x) (paths : List (List ℕ)) (named : old.paths ≡ paths) (s1 s2 : List ℕ) (sized_old : map length old.seen ≡ s1) (sized_new : map length new.seen ≡ s2) where
  -- a turn of the pool is one of the account
  as_account : (answer : Reply) (pool : Option OpenPool) → pool ≡ (if stays_open command answer then Some y else None) → Turns paths s1 old.seen x command answer new.seen y
      → IsAccountTurn (shelf_of old) before.account command answer (shelf_of new) pool
  as_account answer pool left h =
      let here = resized paths s1 (map length old.seen) (sym sized_old) old.seen new.seen x y command answer h in
      let there = subst (λ (ps : List (List ℕ)). Turns ps (map length old.seen) old.seen x command answer new.seen y) (sym named) here in
      subst (λ (o : Option OpenPool). IsAccountTurn (shelf_of old) o command answer (shelf_of new) pool) (sym account) (y, there, left)

  pub open_accounts : (r : Result (Option Reply) Fault) → IfOk r (λ found. IfSome found (IsOpenAnswer command))
      → IfOk r (λ found. IfSome found (λ answer. Turns paths s1 old.seen x command answer new.seen y)) → ((n : Refusal) → r ≡ Err (No n) → Refuses paths s1 old.seen x command n y)
      → OnOk r (IsOpen s2 y) → ((n : Refusal) → r ≡ Err (No n) → IsOpen s2 y)
      → IfOk (answer_of r) (λ found. IfSome found (λ answer. Accounts old new before command (left_of (is_closing command r) y) answer))
  open_accounts (Ok None) a h refused lawful lawful_no = tt
  open_accounts (Ok (Some answer)) a h refused lawful lawful_no = record {
    turn = as_account answer (left_of (is_closing command (Ok (Some answer))) y) (closes command answer y a) h;
    lawful = lawful_left (sizes_of new.seen) (is_closing command (Ok (Some answer))) y (subst (λ (sizes : List ℕ). IsOpen sizes y) (sym sized_new) lawful);
  }
  open_accounts (Err (No n)) a h refused lawful lawful_no = record {
    turn = as_account (reply.No n) (Some y) (stays_no command n y) (refused n refl);
    lawful = subst (λ (sizes : List ℕ). IsOpen sizes y) (sym sized_new) (lawful_no n refl);
  }
  open_accounts (Err (Stops stop)) a h refused lawful lawful_no = tt

-- ---- where none is open

module _ (old new : Stand) (before : DeviceState) (command : Command) (pool : Option OpenPool) (account : before.account ≡ None) (paths : List (List ℕ)) (named : old.paths ≡ paths) (s1 s2 : List ℕ) (sized_old : map length old.seen ≡ s1) (sized_new : map length new.seen ≡ s2) where
  begun : (pool : Option OpenPool) → is_some pool ≡ true → IfSome pool (Begins paths s1 old.seen command) → IsSomeAnd pool (Begins old.paths (sizes_of old.seen) old.seen command)
  begun None some h = cc
  begun (Some y) some h =
      subst (λ (ps : List (List ℕ)). Begins ps (sizes_of old.seen) old.seen command y) (sym named) (subst (λ (sizes : List ℕ). Begins paths sizes old.seen command y) (sym sized_old) h)

  lawful_new : IfSome pool (IsOpen s2) → IfSome pool (IsOpen (sizes_of new.seen))
  lawful_new h = subst (λ (sizes : List ℕ). IfSome pool (IsOpen sizes)) (sym sized_new) h

  closed_by : (answer : Reply) → answer ≡ reply.Done → is_some pool ≡ true → IfSome pool (Begins paths s1 old.seen command) → IsAccountTurn (shelf_of old) before.account command answer (shelf_of new) pool
  closed_by answer done some h =
      subst (λ (o : Option OpenPool). IsAccountTurn (shelf_of old) o command answer (shelf_of new) pool) (sym account)
      (subst (λ (a : Reply). IsAccountTurn (shelf_of old) None command a (shelf_of new) pool) (sym done) (begun pool some h))

  closed_no : (n : Refusal) → pool ≡ None → BeginsNone paths s1 old.seen command n → IsAccountTurn (shelf_of old) before.account command (reply.No n) (shelf_of new) pool
  closed_no n none h =
      let here = subst (λ (sizes : List ℕ). BeginsNone paths sizes old.seen command n) (sym sized_old) h in
      let there = subst (λ (ps : List (List ℕ)). BeginsNone ps (sizes_of old.seen) old.seen command n) (sym named) here in
      subst (λ (o : Option OpenPool). IsAccountTurn (shelf_of old) o command (reply.No n) (shelf_of new) pool) (sym account) (none, there)

  pub closed_accounts : (r : Result (Option Reply) Fault) → IfOk r (λ found. IfSome found (λ answer. answer ≡ reply.Done)) → IfOk r (λ found. IfSome found (λ answer. IsTurn false command answer (is_some pool)))
      → IfSome pool (Begins paths s1 old.seen command) → ((n : Refusal) → r ≡ Err (No n) → BeginsNone paths s1 old.seen command n) → OnErr r (pool ≡ None) → IfSome pool (IsOpen s2)
      → IfOk (answer_of r) (λ found. IfSome found (λ answer. Accounts old new before command pool answer))
  closed_accounts (Ok None) done turn h refused closed lawful = tt
  closed_accounts (Ok (Some answer)) done turn h refused closed lawful =
      let is_open : is_some pool ≡ true = (subst (λ (a : Reply). IsTurn false command a (is_some pool)) done turn).1 in
      record { turn = closed_by answer done is_open h; lawful = lawful_new lawful }
  closed_accounts (Err (No n)) done turn h refused closed lawful = record { turn = closed_no n closed (refused n refl); lawful = lawful_new lawful }
  closed_accounts (Err (Stops stop)) done turn h refused closed lawful = tt
