-- What of a kind may go back, after units were taken or given back.
use Rattle.std.proofs.Common.{◌≡◌, ℕ, ◌≤◌, true, List, [], ◌∷◌, sym, arith}
use Rattle.std.proofs.lemmas.List.Sums.{sum_by-cons}
use Rattle.std.specs.Prelude.{All}
use Rattle.zr_base.specs.declared.space.Dva.{Dva}
use Rattle.zr_base.specs.declared.space.Policy.{Policy}
use Rattle.zr_rules.specs.Places.{is_on, state_of_dev}
use Rattle.zr_rules.specs.Resolve.{pass_hits}
use Rattle.zr_rules.specs.Space.{Space}
use Rattle.zr_rules.specs.Equation.{devices_in, live_hits}
use Rattle.zr_space.specs.Paths.{AreInService}
use Rattle.zr_vdev.specs.declared.kind.Kind.{Kind}
use Rattle.zr_vdev.specs.declared.kind.Kind.TheVariants as kinds
use Rattle.zr_vdev.specs.Puts.{Takes, GivesBack}
use Rattle.zr_vdev.specs.Stores.{IsTaken, MayGoBack}
use Rattle.zr_vdev.proofs.Leading.{Resolves}
use Rattle.zr_vdev.proofs.Back.{Parts, spends_service, spends_same, spends_fewer, spends_with, spends_alone, spends_freed, marks_none}
use Rattle.zr_vdev.proofs.Uses.{same_place, serves_stays, taken_own}

-- all may where all devices are in service
pub service_back : (kind : Kind) (s : Space) (list : List Dva) → AreInService (devices_in s) → MayGoBack kind s list
service_back kinds.Block s list on = spends_service s list on
service_back kinds.Meta s list on = tt

-- an address on a device in service may with what may
pub with_back : (kind : Kind) (s : Space) (a : Dva) (list : List Dva) → is_on (state_of_dev s.parts.devs a.dev) ≡ true → MayGoBack kind s list → MayGoBack kind s (a ∷ list)
with_back kinds.Block s a list serves back = spends_with s a list (serves_stays s a.dev serves).0 back
with_back kinds.Meta s a list serves back = tt

-- and alone
pub alone_back : (kind : Kind) (s : Space) (a : Dva) (list : List Dva) → is_on (state_of_dev s.parts.devs a.dev) ≡ true → MayGoBack kind s list → MayGoBack kind s (a ∷ [])
alone_back kinds.Block s a list serves back = spends_alone s a list (serves_stays s a.dev serves).0 back
alone_back kinds.Meta s a list serves back = tt

-- one of them may alone, and so may the others
pub head_back : (kind : Kind) (s : Space) (a : Dva) (list : List Dva) → MayGoBack kind s (a ∷ list) → MayGoBack kind s (a ∷ [])
head_back kinds.Block s a list back =
    spends_fewer s (a ∷ list) (a ∷ []) (λ d u. omega (arith, sum_by-cons (λ (x : Dva). pass_hits (devices_in s) x d u) a list, sum_by-cons (λ (x : Dva). pass_hits (devices_in s) x d u) a [])) back
head_back kinds.Meta s a list back = tt

pub tail_back : (kind : Kind) (s : Space) (a : Dva) (list : List Dva) → MayGoBack kind s (a ∷ list) → MayGoBack kind s list
tail_back kinds.Block s a list back = spends_fewer s (a ∷ list) list (λ d u. omega (arith, sum_by-cons (λ (x : Dva). pass_hits (devices_in s) x d u) a list)) back
tail_back kinds.Meta s a list back = tt

-- ---- units that are taken leave what may

pub take_back : (kind : Kind) (policy : Policy) (want : ℕ) (old new : Space) (at : Dva) → Takes kind policy want old new at → devices_in new ≡ devices_in old → (list : List Dva) → MayGoBack kind old list → MayGoBack kind new list
take_back kinds.Block policy want old new at takes devices list back = spends_same old new list devices (λ d. (takes.frame.each d).counts) takes.fresh back
take_back kinds.Meta policy want old new at takes devices list back = tt

pub take_back_was : (kind : Kind) (policy : Policy) (want : ℕ) (old new : Space) (at : Dva) → Takes kind policy want old new at → devices_in new ≡ devices_in old → (list : List Dva) → MayGoBack kind new list → MayGoBack kind old list
take_back_was kinds.Block policy want old new at takes devices list back = spends_same new old list (sym devices) (λ d. sym (takes.frame.each d).counts) (λ d u. sym (takes.fresh d u)) back
take_back_was kinds.Meta policy want old new at takes devices list back = tt

-- ---- units of a device in service that are given back do too

pub lost_back : (kind : Kind) (old new : Space) (a : Dva) (birth : ℕ) → IsTaken kind old a → GivesBack kind old new a birth → devices_in new ≡ devices_in old → (list : List Dva) → MayGoBack kind old list → MayGoBack kind new list
lost_back kinds.Block old new a birth taken gives devices list back =
    let serves = serves_stays old a.dev taken.serves in
    spends_same old new list devices (λ d. (gives.frame.each d).counts) (marks_none old new a birth gives devices serves.0 serves.1 (λ d u is. same_place a d u (taken_own kinds.Block old a taken d u is))) back
lost_back kinds.Meta old new a birth taken gives devices list back = tt

pub lost_back_was : (kind : Kind) (old new : Space) (a : Dva) (birth : ℕ) → IsTaken kind old a → GivesBack kind old new a birth → devices_in new ≡ devices_in old → (list : List Dva) → MayGoBack kind new list → MayGoBack kind old list
lost_back_was kinds.Block old new a birth taken gives devices list back =
    let serves = serves_stays old a.dev taken.serves in
    spends_same new old list (sym devices) (λ d. sym (gives.frame.each d).counts)
    (λ d u. sym (marks_none old new a birth gives devices serves.0 serves.1 (λ e v is. same_place a e v (taken_own kinds.Block old a taken e v is)) d u)) back
lost_back_was kinds.Meta old new a birth taken gives devices list back = tt

-- ---- and so may the others once one is given back

pub rest_back : (kind : Kind) (old new : Space) (a : Dva) (birth : ℕ) → GivesBack kind old new a birth → devices_in new ≡ devices_in old → (all left : List Dva) → Parts all left a → All (Resolves (devices_in old)) left → Resolves (devices_in old) a
    → ((d u : ℕ) → live_hits (devices_in old) all d u ≤ 1) → MayGoBack kind old all → MayGoBack kind new left
rest_back kinds.Block old new a birth gives devices all left parts each own once back = spends_freed old new a birth gives devices all left parts each own once back
rest_back kinds.Meta old new a birth gives devices all left parts each own once back = tt
