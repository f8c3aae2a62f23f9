-- What the calls of a layer leave alone, and what holds at each moment of them.
use Rattle.std.proofs.Common.{◌≡◌, List, [], ◌∷◌, ◌++◌, ℕ, Result, Ok, Err, refl, sym, ◌∙◌, ap, subst, append_assoc}
use Rattle.std.specs.List.{AllByRecursion}
use Rattle.zr_shelf.specs.declared.desk.DeskErr.{DeskErr}
use Rattle.zr_shelf.specs.declared.desk.DeskErr.TheVariants.{Failed, NoMemory}
use Rattle.zr_shelf.specs.Disks.{disk, part, Stand, PendingWrite, MayLeave, IsSameOutside, IsAtRest, flushed}
use Rattle.zr_shelf.specs.Moments.{World, Throughout, IsStill, Writes}
use Rattle.zr_shelf.specs.Doings.{Follows, latest, IsLinked, DoesOnly, Adds, IsAdded, WritesOnly}
use Rattle.zr_shelf.specs.Doings.Follows.{stood, wrote, flush}
use Rattle.zr_shelf.specs.Doings.Adds.{added_none, added}
use Rattle.zr_shelf.proofs.Parts.{outside_more, outside_refl}

now_is : (now first : Stand) (rest past more : List Stand) → now ∷ rest ≡ more ++ first ∷ past → now ≡ latest more first
now_is now first rest past [] joins = cc
now_is now first rest past (stand ∷ more) joins = cc

-- a fact that each call keeps holds at each moment, and at the end
module _ (P : Stand → Type 0) (allowed : PendingWrite → Type 0) (keeps : (old new : Stand) → Follows allowed old new → P old → P new) where
  all_linked : (more : List Stand) (first : Stand) → IsLinked allowed more first → P first → AllByRecursion P more × P (latest more first)
  all_linked [] first linked h = (tt, h)
  all_linked (s ∷ more) first linked h =
      let before = all_linked more first linked.1 h in
      let now = keeps (latest more first) s linked.0 before.1 in
      ((now, before.0), now)

  pub kept_throughout : (old new : World) → DoesOnly allowed old new → P old.now → Throughout P old new × P new.now
  kept_throughout old new does h =
      let all = all_linked does.more old.now does.linked h in
      (record { more = does.more; joins = does.joins; each = all.0 }, subst P (sym (now_is new.now old.now new.past old.past does.more does.joins)) all.1)

-- the same paths and sizes to make, the same input left and the same bytes sent
pub record IsQuiet (old new : Stand) : Type 0 where
  pub paths : new.paths ≡ old.paths
  pub makes : new.makes ≡ old.makes
  pub left : new.left ≡ old.left
  pub sent : new.sent ≡ old.sent

quiet_step : (allowed : PendingWrite → Type 0) (first old new : Stand) → Follows allowed old new → IsQuiet first old → IsQuiet first new
quiet_step allowed first old new (stood is) q = subst (IsQuiet first) (sym is) q
quiet_step allowed first old new (wrote w may written) q = record { paths = written.paths ∙ q.paths; makes = written.makes ∙ q.makes; left = written.left ∙ q.left; sent = written.sent ∙ q.sent }
quiet_step allowed first old new (flush is) q = subst (IsQuiet first) (sym is) (record { paths = q.paths; makes = q.makes; left = q.left; sent = q.sent })

-- calls on the disks leave paths, input and output at every moment
pub quiet_throughout : (allowed : PendingWrite → Type 0) (old new : World) → DoesOnly allowed old new → Throughout (IsQuiet old.now) old new × IsQuiet old.now new.now
quiet_throughout allowed old new does = kept_throughout (IsQuiet old.now) allowed (quiet_step allowed old.now) old new does (record { paths = refl; makes = refl; left = refl; sent = refl })

readable_step : (allowed : PendingWrite → Type 0) (old new : Stand) → Follows allowed old new → MayLeave old old.seen → MayLeave new new.seen
readable_step allowed old new (stood is) h = subst (λ (s : Stand). MayLeave s s.seen) (sym is) h
readable_step allowed old new (wrote w may written) h =
    subst (λ (ws : List PendingWrite). IsSameOutside ws new.durable new.seen) (sym written.writes)
    (subst (λ (d : List (List ℕ)). IsSameOutside (w ∷ old.writes) d new.seen) (sym written.durable) (outside_more old.writes w old.durable old.seen new.seen h written.seen))
readable_step allowed old new (flush is) h = subst (λ (s : Stand). MayLeave s s.seen) (sym is) (outside_refl [] old.seen)

-- what is read is one of the images, at every moment
pub readable_throughout : (allowed : PendingWrite → Type 0) (old new : World) → DoesOnly allowed old new → MayLeave old.now old.now.seen → Throughout (λ s. MayLeave s s.seen) old new × MayLeave new.now new.now.seen
readable_throughout allowed old new does h = kept_throughout (λ s. MayLeave s s.seen) allowed (readable_step allowed) old new does h

-- a crash of disks at rest leaves them as they are read
pub at_rest_image : (stand : Stand) (image : List (List ℕ)) → IsAtRest stand → MayLeave stand image → (slot at n : ℕ) → part (disk image slot) at n ≡ part (disk stand.seen slot) at n
at_rest_image stand image rest leaves slot at n =
    let same = subst (λ (ws : List PendingWrite). IsSameOutside ws stand.durable image) rest.writes leaves in
    same.bytes slot at n tt ∙ sym (ap (λ (d : List (List ℕ)). part (disk d slot) at n) rest.seen)

-- an image is a start for the next run: whatever the crash was, on it nothing is pending
pub image_at_rest : (stand : Stand) (image : List (List ℕ)) → stand.durable ≡ image → stand.seen ≡ image → stand.writes ≡ [] → IsAtRest stand × MayLeave stand image
image_at_rest stand image durable seen writes = (
  record { writes = writes; seen = seen ∙ sym durable },
  subst (λ (d : List (List ℕ)). IsSameOutside stand.writes d image) (sym durable) (outside_refl stand.writes image),
)

-- a flush that is done leaves the disks at rest
pub flushed_at_rest : (old new : Stand) → new ≡ flushed old → IsAtRest new
flushed_at_rest old new is = subst IsAtRest (sym is) (record { writes = refl; seen = refl })

-- writes without a flush
module _ (P : Stand → Type 0) (allowed : PendingWrite → Type 0) (keeps : (old new : Stand) → Adds allowed old new → P old → P new) where
  all_added : (more : List Stand) (first : Stand) → IsAdded allowed more first → P first → AllByRecursion P more × P (latest more first)
  all_added [] first linked h = (tt, h)
  all_added (s ∷ more) first linked h =
      let before = all_added more first linked.1 h in
      let now = keeps (latest more first) s linked.0 before.1 in
      ((now, before.0), now)

  pub added_throughout : (old new : World) → WritesOnly allowed old new → P old.now → Throughout P old new × P new.now
  added_throughout old new does h =
      let all = all_added does.more old.now does.added h in
      (record { more = does.more; joins = does.joins; each = all.0 }, subst P (sym (now_is new.now old.now new.past old.past does.more does.joins)) all.1)

module _ (allowed : PendingWrite → Type 0) where
  follows_adds : (old new : Stand) → Adds allowed old new → Follows allowed old new
  follows_adds old new (added_none is) = stood is
  follows_adds old new (added w may written) = wrote w may written

  linked_added : (more : List Stand) (first : Stand) → IsAdded allowed more first → IsLinked allowed more first
  linked_added [] first h = tt
  linked_added (s ∷ more) first h = (follows_adds (latest more first) s h.0, linked_added more first h.1)

  -- it is a doing
  pub does_writes : (old new : World) → WritesOnly allowed old new → DoesOnly allowed old new
  does_writes old new h = record { more = h.more; joins = h.joins; linked = linked_added h.more old.now h.added }

  pub writes_nothing : (w : World) → WritesOnly allowed w w
  writes_nothing w = record { more = []; joins = refl; added = tt }

  added_append : (more less : List Stand) (first : Stand) → IsAdded allowed more (latest less first) → IsAdded allowed less first → IsAdded allowed (more ++ less) first
  added_append [] less first h k = k
  added_append (stand ∷ more) less first h k = (subst (λ (s : Stand). Adds allowed s stand) (latest_append more less first) h.0, added_append more less first h.1 k)
    where
      latest_append : (more less : List Stand) (first : Stand) → latest more (latest less first) ≡ latest (more ++ less) first
      latest_append [] less first = refl
      latest_append (s ∷ more) less first = refl

  pub writes_more : (a b c : World) → WritesOnly allowed a b → WritesOnly allowed b c → WritesOnly allowed a c
  writes_more a b c p q = record {
    more = q.more ++ p.more;
    joins = q.joins ∙ ap (λ (l : List Stand). q.more ++ l) p.joins ∙ sym (append_assoc q.more p.more (a.now ∷ a.past));
    added = added_append q.more p.more a.now (subst (IsAdded allowed q.more) (now_is b.now a.now b.past a.past p.more p.joins) q.added) p.added;
  }

  pub writes_still : (a b : World) → IsStill a b → WritesOnly allowed a b
  writes_still a b still = record { more = still.since.more; joins = still.since.joins; added = all_same still.since.more still.since.each }
    where
      all_same : (more : List Stand) → AllByRecursion (λ s. s ≡ a.now) more → IsAdded allowed more a.now
      all_same [] each = tt
      all_same (s ∷ []) each = (added_none each.0, tt)
      all_same (s ∷ t ∷ more) each = (added_none (each.0 ∙ sym each.1.0), all_same (t ∷ more) each.1)

  pub writes_write : (w : PendingWrite) (r : Result (Unit {0}) DeskErr) (a b : World) → allowed w → Writes w r a b → WritesOnly allowed a b
  writes_write w (Ok done) a b may call = record { more = b.now ∷ []; joins = ap (λ (l : List Stand). b.now ∷ l) call.past; added = (added w may call.step.0, tt) }
  writes_write w (Err Failed) a b may call = record { more = b.now ∷ []; joins = ap (λ (l : List Stand). b.now ∷ l) call.past; added = (added w may call.step, tt) }
  writes_write w (Err NoMemory) a b may call = writes_still a b call
