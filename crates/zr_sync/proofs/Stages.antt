-- What a stream has at its stage stays so while metadata is put and given back.
use Rattle.std.proofs.Common.{◌≡◌, ◌≢◌, ◌∙◌, ℕ, Bool, true, false, List, Some, refl, sym, ap, subst}
use Rattle.std.specs.Prelude.{slice_index_or}
use Rattle.zr_base.specs.declared.space.CondPart.{CondPart}
use Rattle.zr_base.specs.declared.space.LateRun.{LateRun}
use Rattle.zr_base.specs.declared.space.Entry.{Entry}
use Rattle.zr_base.specs.declared.space.Extent.{Extent}
use Rattle.zr_rules.specs.Logs.{IsLate, IsLog}
use Rattle.zr_rules.specs.Places.{part_of}
use Rattle.zr_rules.specs.Space.{Space, IsLawful, opened_of}
use Rattle.zr_space.specs.Turning.{waiting_runs}
use Rattle.zr_space.specs.Views.{late_runs}
use Rattle.zr_vdev.specs.Stores.{KeepsOthers, WaitsStill}
use Rattle.zr_vdev.specs.declared.kind.Kind.{Kind}
use Rattle.zr_vdev.specs.declared.kind.Kind.TheVariants.{Meta}
use Rattle.zr_sync.specs.Mappings.{HadFirst, HasFirst, IsSpelled, mapping_words, turned_at, is_turned, words_at}
use Rattle.zr_sync.specs.Trees.{Place, Stage, HasNoLateYet, IsAt, IsCondAt, MaySpell, first_stage}
use Rattle.zr_sync.specs.Trees.Place.{OfLog, OfMapping, FirstLate, SecondLate}
use Rattle.zr_sync.specs.Trees.Stage.{Had, Untold, Given, Written, Recorded}
use Rattle.zr_sync.specs.Words.{IsLastLog, IsLogNow, log_set, log_was}
use Rattle.zr_sync.specs.declared.logs.Logs.{Logs}
use Rattle.zr_sync.specs.declared.logs.Logs.TheVariants.{Grow, Anew}
use Rattle.zr_sync.specs.declared.mappings.MappingStream.{MappingStream}
use Rattle.zr_sync.specs.declared.open.CondStreams.{CondStreams}
use Rattle.zr_sync.specs.declared.open.OpenPool.{OpenPool}
use Rattle.zr_sync.specs.declared.open.Turned.{Turned}
use Rattle.zr_sync.specs.declared.words.Log.{Log}
use Rattle.zr_sync.specs.declared.words.Log.TheVariants.{Held, Kept, Fresh}
use Rattle.zr_sync.proofs.KeptSets.{same_held, same_kept, same_fresh, same_waiting}

-- ---- of a space

was_same : (kind : Kind) (a b : Space) → KeepsOthers kind a b → (log : Log) (d u : ℕ) → log_was log b d u ≡ log_was log a d u
was_same kind a b others Held d u = others.root.held d u
was_same kind a b others Kept d u = others.root.kept d u
was_same kind a b others Fresh d u = others.root.fresh d u

pub last_log_stays : (kind : Kind) (a b : Space) → KeepsOthers kind a b → (version dev : ℕ) (log : Log) (ws : List ℕ) → IsLastLog version a dev log ws → IsLastLog version b dev log ws
last_log_stays kind a b others version dev log ws is = record { set = is.set; log_is = is.log_is; units = λ u. is.units u ∙ sym (was_same kind a b others log dev u) }

set_same : (a b : Space) → IsLawful a → IsLawful b → KeepsOthers Meta a b → (log : Log) (d : ℕ) → log_set log (part_of b.parts.devs d) ≡ log_set log (part_of a.parts.devs d)
set_same a b was is others Held d = same_held a b was is others.held d
set_same a b was is others Kept d = same_kept a b was is others.held others.stays d
set_same a b was is others Fresh d = same_fresh a b was is others.marks d

pub log_now_stays : (a b : Space) → IsLawful a → IsLawful b → KeepsOthers Meta a b → (version dev : ℕ) (log : Log) (ws : List ℕ) → IsLogNow version a dev log ws → IsLogNow version b dev log ws
log_now_stays a b was is others version dev log ws now = subst (λ (es : List Extent). IsLog version dev ws es) (sym (set_same a b was is others log dev)) now

-- ---- of a pool

-- what the stages of a pool speak of beside its sets is the same
pub record IsSameFrame (x y : OpenPool) : Type 0 where
  pub version : y.version ≡ x.version
  pub turned : y.turned ≡ x.turned
  pub lawful_old : IsLawful x.space
  pub lawful : IsLawful y.space

pub spelled_stays : (kind : Kind) (x y : OpenPool) → KeepsOthers kind x.space y.space → (dev : ℕ) → MaySpell x dev → MaySpell y dev
spelled_stays kind x y others dev spelled =
    subst (λ (es : List Entry). IsSpelled es (part_of y.space.parts.devs dev).counts) (sym (others.rows.each dev).entries) (subst (λ (cs : List ℕ). IsSpelled (part_of x.space.parts.devs dev).entries cs) (sym (others.rows.each dev).counts) spelled)

pub mapping_stays : (kind : Kind) (x y : OpenPool) → KeepsOthers kind x.space y.space → y.turned ≡ x.turned → (dev : ℕ) (which : MappingStream) (ws : List ℕ) → HadFirst x dev which ws × MaySpell x dev → HadFirst y dev which ws × MaySpell y dev
mapping_stays kind x y others turned dev which ws had =
    let entries = (others.rows.each dev).entries in
    let counts = (others.rows.each dev).counts in
    let same : is_turned which (turned_at y dev) ≡ is_turned which (turned_at x dev) = ap (λ (ts : List Turned). is_turned which (slice_index_or ts dev (record { entries = false; counts = false }))) turned in (
      λ is. subst (λ (es : List Entry). HasFirst which es (part_of y.space.parts.devs dev).counts ws) (sym entries) (subst (λ (cs : List ℕ). HasFirst which (part_of x.space.parts.devs dev).entries cs ws) (sym counts) (had.0 (sym same ∙ is))),
      spelled_stays kind x y others dev had.1,
    )

pub words_stay : (x y : OpenPool) → KeepsOthers Meta x.space y.space → (dev : ℕ) (which : MappingStream) → words_at y dev which ≡ words_at x dev which
words_stay x y others dev which =
    ap (λ (es : List Entry). mapping_words which es (part_of y.space.parts.devs dev).counts) (others.rows.each dev).entries
    ∙ ap (λ (cs : List ℕ). mapping_words which (part_of x.space.parts.devs dev).entries cs) (others.rows.each dev).counts

-- late sets that are written name what waits to be free
abbrev pub WaitsAlike : Stage → Place → OpenPool → OpenPool → Type 0
WaitsAlike Written FirstLate x y = (d : ℕ) → waiting_runs (opened_of y.space d) ≡ waiting_runs (opened_of x.space d)
WaitsAlike stage place x y = Unit {0}

pub at_stays : (x y : OpenPool) → IsSameFrame x y → KeepsOthers Meta x.space y.space → (stage : Stage) (dev : ℕ) (place : Place) (ws : List ℕ) → WaitsAlike stage place x y → IsAt stage x dev place ws → IsAt stage y dev place ws
at_stays x y f others Had dev (OfLog log) ws alike is = subst (λ (v : ℕ). IsLastLog v y.space dev log ws) (sym f.version) (last_log_stays Meta x.space y.space others x.version dev log ws is)
at_stays x y f others Had dev (OfMapping which) ws alike is = mapping_stays Meta x y others f.turned dev which ws is
at_stays x y f others Had dev FirstLate ws alike is = tt
at_stays x y f others Had dev SecondLate ws alike is = tt
at_stays x y f others Untold dev (OfLog log) ws alike is = tt
at_stays x y f others Untold dev (OfMapping which) ws alike is = spelled_stays Meta x y others dev is
at_stays x y f others Untold dev FirstLate ws alike is = tt
at_stays x y f others Untold dev SecondLate ws alike is = tt
at_stays x y f others Given dev (OfLog log) ws alike is = is
at_stays x y f others Given dev (OfMapping which) ws alike is = is
at_stays x y f others Given dev FirstLate ws alike is = is
at_stays x y f others Given dev SecondLate ws alike is = is
at_stays x y f others Written dev (OfLog log) ws alike is = subst (λ (v : ℕ). IsLogNow v y.space dev log ws) (sym f.version) (log_now_stays x.space y.space f.lawful_old f.lawful others x.version dev log ws is)
at_stays x y f others Written dev (OfMapping which) ws alike is = (is.0 ∙ sym (words_stay x y others dev which), spelled_stays Meta x y others dev is.1)
at_stays x y f others Written dev FirstLate ws alike is = subst (λ (v : ℕ). IsLate v dev ws (waiting_runs (opened_of y.space dev))) (sym f.version) (subst (λ (runs : List LateRun). IsLate x.version dev ws runs) (sym (alike dev)) is)
at_stays x y f others Written dev SecondLate ws alike is = subst (λ (v : ℕ). IsLate v dev ws (part_of y.space.parts.devs dev).late1) (sym f.version) (subst (λ (runs : List LateRun). IsLate x.version dev ws runs) (sym (others.rows.each dev).late1) is)
at_stays x y f others Recorded dev (OfLog log) ws alike is = subst (λ (v : ℕ). IsLogNow v y.space dev log ws) (sym f.version) (log_now_stays x.space y.space f.lawful_old f.lawful others x.version dev log ws is)
at_stays x y f others Recorded dev (OfMapping which) ws alike is = (is.0 ∙ sym (words_stay x y others dev which), spelled_stays Meta x y others dev is.1)
at_stays x y f others Recorded dev FirstLate ws alike is = subst (λ (v : ℕ). IsLate v dev ws (part_of y.space.parts.devs dev).late1) (sym f.version) (subst (λ (runs : List LateRun). IsLate x.version dev ws runs) (sym (others.rows.each dev).late1) is)
at_stays x y f others Recorded dev SecondLate ws alike is = subst (λ (v : ℕ). IsLate v dev ws (part_of y.space.parts.devs dev).late2) (sym f.version) (subst (λ (runs : List LateRun). IsLate x.version dev ws runs) (sym (others.rows.each dev).late2) is)

pub cond_stays : (x y : OpenPool) → KeepsOthers Meta x.space y.space → y.cond ≡ x.cond → (stage : Stage) (which : MappingStream) (ws : List ℕ) → IsCondAt stage x which ws → IsCondAt stage y which ws
cond_stays x y others cond Had which ws is = λ c at.
    let had = is c (sym others.rows.cond ∙ at) in
    (λ done. had.0 (sym (ap (λ (t : CondStreams). t.done) cond) ∙ done), had.1)
cond_stays x y others cond Untold which ws is = λ c at. is c (sym others.rows.cond ∙ at)
cond_stays x y others cond Given which ws is = is
cond_stays x y others cond Written which ws is = λ c at. is c (sym others.rows.cond ∙ at)
cond_stays x y others cond Recorded which ws is = λ c at. is c (sym others.rows.cond ∙ at)

-- only where a first late set is written does it matter what waits
pub alike_unless : (x y : OpenPool) (stage : Stage) (place : Place) → (place ≡ FirstLate → stage ≢ Written) → WaitsAlike stage place x y
alike_unless x y Had (OfLog log) unless = tt
alike_unless x y Had (OfMapping which) unless = tt
alike_unless x y Had FirstLate unless = tt
alike_unless x y Had SecondLate unless = tt
alike_unless x y Untold (OfLog log) unless = tt
alike_unless x y Untold (OfMapping which) unless = tt
alike_unless x y Untold FirstLate unless = tt
alike_unless x y Untold SecondLate unless = tt
alike_unless x y Given (OfLog log) unless = tt
alike_unless x y Given (OfMapping which) unless = tt
alike_unless x y Given FirstLate unless = tt
alike_unless x y Given SecondLate unless = tt
alike_unless x y Written (OfLog log) unless = tt
alike_unless x y Written (OfMapping which) unless = tt
alike_unless x y Written FirstLate unless = absurd (unless refl refl)
alike_unless x y Written SecondLate unless = tt
alike_unless x y Recorded (OfLog log) unless = tt
alike_unless x y Recorded (OfMapping which) unless = tt
alike_unless x y Recorded FirstLate unless = tt
alike_unless x y Recorded SecondLate unless = tt

-- so it is while none is written
pub alike_yet : (x y : OpenPool) (stage : ℕ → Place → Stage) → HasNoLateYet stage → (dev : ℕ) (place : Place) → WaitsAlike (stage dev place) place x y
alike_yet x y stage none dev place = alike_unless x y (stage dev place) place (λ is. subst (λ (p : Place). stage dev p ≢ Written) (sym is) (none dev))

-- and where nothing was given back
pub alike_still : (x y : OpenPool) → IsLawful x.space → IsLawful y.space → KeepsOthers Meta x.space y.space → WaitsStill x.space y.space → (stage : Stage) (place : Place) → WaitsAlike stage place x y
alike_still x y was is others still Written FirstLate = λ d.
    let same = same_waiting x.space y.space was is others.stays still d in
    ap (λ (es : List Extent). late_runs (record { blocks = es; meta = (opened_of y.space d).dropped })) same.0 ∙ ap (λ (es : List Extent). late_runs (record { blocks = (opened_of x.space d).deferred; meta = es })) same.1
alike_still x y was is others still Written (OfLog log) = tt
alike_still x y was is others still Written (OfMapping which) = tt
alike_still x y was is others still Written SecondLate = tt
alike_still x y was is others still Had (OfLog log) = tt
alike_still x y was is others still Had (OfMapping which) = tt
alike_still x y was is others still Had FirstLate = tt
alike_still x y was is others still Had SecondLate = tt
alike_still x y was is others still Untold (OfLog log) = tt
alike_still x y was is others still Untold (OfMapping which) = tt
alike_still x y was is others still Untold FirstLate = tt
alike_still x y was is others still Untold SecondLate = tt
alike_still x y was is others still Given (OfLog log) = tt
alike_still x y was is others still Given (OfMapping which) = tt
alike_still x y was is others still Given FirstLate = tt
alike_still x y was is others still Given SecondLate = tt
alike_still x y was is others still Recorded (OfLog log) = tt
alike_still x y was is others still Recorded (OfMapping which) = tt
alike_still x y was is others still Recorded FirstLate = tt
alike_still x y was is others still Recorded SecondLate = tt

-- ---- what a commit is told of the streams before it

pub not_written : (logs : Logs) → first_stage logs ≢ Written
not_written Grow e = cc
not_written Anew e = cc

-- what is told of a stream that is appended to
pub told_at : (logs : Logs) (pool : OpenPool) (dev : ℕ) (place : Place) (ws : List ℕ) → IsAt (first_stage logs) pool dev place ws → logs ≡ Grow → IsAt Had pool dev place ws
told_at logs pool dev place ws is grows = subst (λ (l : Logs). IsAt (first_stage l) pool dev place ws) grows is

pub told_of_cond : (logs : Logs) (pool : OpenPool) (which : MappingStream) (ws : List ℕ) → IsCondAt (first_stage logs) pool which ws → logs ≡ Grow → IsCondAt Had pool which ws
told_of_cond logs pool which ws is grows = subst (λ (l : Logs). IsCondAt (first_stage l) pool which ws) grows is

-- a mapping can be spelled in either case
pub told_spelled : (logs : Logs) (pool : OpenPool) (dev : ℕ) (which : MappingStream) (ws : List ℕ) → IsAt (first_stage logs) pool dev (OfMapping which) ws → MaySpell pool dev
told_spelled Grow pool dev which ws is = is.1
told_spelled Anew pool dev which ws is = is

pub cond_spelled : (logs : Logs) (pool : OpenPool) (which : MappingStream) (ws : List ℕ) → IsCondAt (first_stage logs) pool which ws → (c : CondPart) → pool.space.parts.cond ≡ Some c → IsSpelled c.entries c.counts
cond_spelled Grow pool which ws is c at = (is c at).1
cond_spelled Anew pool which ws is c at = is c at

-- what is not written anew is appended to
pub appends : (logs : Logs) (b : Bool) → (logs ≡ Anew → b ≡ true) → b ≡ false → logs ≡ Grow
appends Grow b anew is = refl
appends Anew b anew is = let yes = anew refl in cc
