-- What is guarded stays, whatever else is done.
use Rattle.std.proofs.Common.{◌≡◌, ℕ, List, [], ◌∷◌, ◌++◌, Result, Ok, Err, refl, sym, ◌∙◌, ap, subst, append_assoc}
use Rattle.std.specs.List.{AllByRecursion}
use Rattle.zr_shelf.specs.declared.desk.DeskErr.{DeskErr}
use Rattle.zr_shelf.specs.declared.desk.DeskErr.TheVariants.{Failed, NoMemory}
use Rattle.zr_shelf.specs.Disks.{disk, part, PendingWrite, Meets, IsUntouched, Stand, MayLeave}
use Rattle.zr_shelf.specs.Moments.{World, Throughout, IsStill, Writes, Flushes}
use Rattle.zr_shelf.specs.Doings.{Follows, latest, IsLinked, DoesOnly}
use Rattle.zr_shelf.specs.Doings.Follows.{stood, wrote, flush}
use Rattle.zr_shelf.specs.Protected.{IsSameIn, IsGuarded}

module _ (ranges : ℕ → ℕ → ℕ → Type 0) (base : List (List ℕ)) where
  -- what a crash leaves has the bytes
  pub guarded_image : (stand : Stand) (image : List (List ℕ)) → IsGuarded ranges base stand → MayLeave stand image → IsSameIn ranges base image
  guarded_image stand image guard leaves slot at n protected = leaves.bytes slot at n (guard.writes slot at n protected) ∙ guard.durable slot at n protected

  module _ (allowed : PendingWrite → Type 0) (apart : (w : PendingWrite) → allowed w → (slot at n : ℕ) → ranges slot at n → ¬ Meets w slot at n) where
    -- one call keeps it
    pub guarded_step : (old new : Stand) → Follows allowed old new → IsGuarded ranges base old → IsGuarded ranges base new
    guarded_step old new (stood is) guard = subst (IsGuarded ranges base) (sym is) guard
    guarded_step old new (wrote w may written) guard = record {
      durable = subst (IsSameIn ranges base) (sym written.durable) guard.durable;
      seen = λ slot at n protected. written.seen.bytes slot at n (apart w may slot at n protected, tt) ∙ guard.seen slot at n protected;
      writes = λ slot at n protected. subst (λ (ws : List PendingWrite). IsUntouched ws slot at n) (sym written.writes) (apart w may slot at n protected, guard.writes slot at n protected);
    }
    guarded_step old new (flush is) guard = subst (IsGuarded ranges base) (sym is) (record { durable = guard.seen; seen = guard.seen; writes = λ slot at n protected. tt })

    guarded_all : (more : List Stand) (first : Stand) → IsLinked allowed more first → IsGuarded ranges base first → AllByRecursion (IsGuarded ranges base) more × IsGuarded ranges base (latest more first)
    guarded_all [] first linked guard = (tt, guard)
    guarded_all (stand ∷ more) first linked guard =
        let before = guarded_all more first linked.1 guard in
        let now = guarded_step (latest more first) stand linked.0 before.1 in
        ((now, before.0), now)

    pub guarded_does : (old new : World) → DoesOnly allowed old new → IsGuarded ranges base old.now → Throughout (IsGuarded ranges base) old new × IsGuarded ranges base new.now
    guarded_does old new does guard =
        let all = guarded_all does.more old.now does.linked guard in (
          record { more = does.more; joins = does.joins; each = all.0 },
          subst (IsGuarded ranges base) (sym (now_is does.more old.now old.past does.joins)) all.1,
        )
      where
        now_is : (more : List Stand) (first : Stand) (past : List Stand) → new.now ∷ new.past ≡ more ++ first ∷ past → new.now ≡ latest more first
        now_is [] first past joins = cc
        now_is (stand ∷ more) first past joins = cc

-- all that is there is guarded, once nothing is pending
pub guarded_at_rest : (ranges : ℕ → ℕ → ℕ → Type 0) (stand : Stand) → stand.writes ≡ [] → stand.seen ≡ stand.durable → IsGuarded ranges stand.durable stand
guarded_at_rest ranges stand none same = record {
  durable = λ slot at n protected. refl;
  seen = λ slot at n protected. ap (λ (d : List (List ℕ)). part (disk d slot) at n) same;
  writes = λ slot at n protected. subst (λ (ws : List PendingWrite). IsUntouched ws slot at n) (sym none) tt;
}

-- of fewer ranges
pub guarded_fewer : (ranges fewer : ℕ → ℕ → ℕ → Type 0) (base : List (List ℕ)) (stand : Stand) → ((slot at n : ℕ) → fewer slot at n → ranges slot at n) → IsGuarded ranges base stand → IsGuarded fewer base stand
guarded_fewer ranges fewer base stand f guard = record {
  durable = λ slot at n p. guard.durable slot at n (f slot at n p);
  seen = λ slot at n p. guard.seen slot at n (f slot at n p);
  writes = λ slot at n p. guard.writes slot at n (f slot at n p);
}

module _ (allowed : PendingWrite → Type 0) where
  pub does_nothing : (w : World) → DoesOnly allowed w w
  does_nothing w = record { more = []; joins = refl; linked = tt }

  linked_append : (more less : List Stand) (first : Stand) → IsLinked allowed more (latest less first) → IsLinked allowed less first → IsLinked allowed (more ++ less) first
  linked_append [] less first h k = k
  linked_append (stand ∷ more) less first h k = (subst (λ (s : Stand). Follows allowed s stand) (latest_append more less first) h.0, linked_append more less first h.1 k)
    where
      latest_append : (more less : List Stand) (first : Stand) → latest more (latest less first) ≡ latest (more ++ less) first
      latest_append [] less first = refl
      latest_append (s ∷ more) less first = refl

  pub does_more : (a b c : World) → DoesOnly allowed a b → DoesOnly allowed b c → DoesOnly allowed a c
  does_more a b c p q = record {
    more = q.more ++ p.more;
    joins = q.joins ∙ ap (λ (l : List Stand). q.more ++ l) p.joins ∙ sym (append_assoc q.more p.more (a.now ∷ a.past));
    linked = linked_append q.more p.more a.now (subst (IsLinked allowed q.more) (now_is p.more a.now a.past p.joins) q.linked) p.linked;
  }
    where
      now_is : (more : List Stand) (first : Stand) (past : List Stand) → b.now ∷ b.past ≡ more ++ first ∷ past → b.now ≡ latest more first
      now_is [] first past joins = cc
      now_is (stand ∷ more) first past joins = cc

  one_step : (a b : World) → b.past ≡ a.now ∷ a.past → Follows allowed a.now b.now → DoesOnly allowed a b
  one_step a b past follows = record { more = b.now ∷ []; joins = ap (λ (l : List Stand). b.now ∷ l) past; linked = (follows, tt) }

  pub does_still : (a b : World) → IsStill a b → DoesOnly allowed a b
  does_still a b still = record { more = still.since.more; joins = still.since.joins; linked = all_same still.since.more still.since.each }
    where
      all_same : (more : List Stand) → AllByRecursion (λ s. s ≡ a.now) more → IsLinked allowed more a.now
      all_same [] each = tt
      all_same (s ∷ []) each = (stood each.0, tt)
      all_same (s ∷ t ∷ more) each = (stood (each.0 ∙ sym each.1.0), all_same (t ∷ more) each.1)

  pub does_write : (w : PendingWrite) (r : Result (Unit {0}) DeskErr) (a b : World) → allowed w → Writes w r a b → DoesOnly allowed a b
  does_write w (Ok done) a b may call = one_step a b call.past (wrote w may call.step.0)
  does_write w (Err Failed) a b may call = one_step a b call.past (wrote w may call.step)
  does_write w (Err NoMemory) a b may call = does_still a b call

  pub does_flush : (r : Result (Unit {0}) DeskErr) (a b : World) → Flushes r a b → DoesOnly allowed a b
  does_flush (Ok done) a b call = one_step a b call.past (flush call.step)
  does_flush (Err e) a b call = does_still a b call

-- calls of which more is allowed
pub does_weaker : (allowed more : PendingWrite → Type 0) (old new : World) → ((w : PendingWrite) → allowed w → more w) → DoesOnly allowed old new → DoesOnly more old new
does_weaker allowed more old new f does = record { more = does.more; joins = does.joins; linked = all does.more old.now does.linked }
  where
    one : (old new : Stand) → Follows allowed old new → Follows more old new
    one old new (stood is) = stood is
    one old new (wrote w may written) = wrote w (f w may) written
    one old new (flush is) = flush is

    all : (stands : List Stand) (first : Stand) → IsLinked allowed stands first → IsLinked more stands first
    all [] first linked = tt
    all (s ∷ stands) first linked = (one (latest stands first) s linked.0, all stands first linked.1)
