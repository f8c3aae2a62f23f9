-- How devices are attached, and what a run came to by its status.
use Rattle.std.proofs.Common.{◌≡◌, ◌≤◌, ◌<◌, ◌+◌, ◌⊎◌, inl, inr, ℕ, zero, suc, List, [], ◌∷◌, ◌++◌, length, map, take, drop, get_or, refl, sym, ap, subst, ◌∙◌, arith, append_assoc, length-append, Result, Ok, Err, IfErr, Option, Some, None, MatchOption, if◌then◌else◌, ◌==◌}
use Rattle.std.proofs.lemmas.List.{append-nil, take_more, map-append}
use Rattle.zr_shelf.specs.Disks.{Stand, with_disk}
use Rattle.zr_script.specs.CommandLine.{CommandLine}
use Rattle.zr_command.specs.Meanings.{Meaning}
use Rattle.zr_session.specs.Answers.{IsStarted, paths_in, rounds_in, IsAttached, IsPartlyAttached, AnswersFront}
use Rattle.zr_session.specs.Generated.{Task, task_in, TellsNothing}
use Rattle.zr_session.specs.Started.{RunsTo, StopsAtDevice}
use Rattle.zr_session.specs.declared.end.End.{End}
use Rattle.zr_session.specs.declared.end.End.TheVariants.{Answered, BadWords, InputFault, OutputFault, DiskFault, BadLine, Damaged, AttachFault, InputLimit, NoMemory}
use Rattle.zr_session.specs.Ends.{status_of, EndsAs, GeneratesAs, EndsBy, IsOpenedTo}

-- one device more is attached
pub attached_more : (devs : List (List ℕ × Option ℕ)) (dev : List ℕ × Option ℕ) (old mid new : Stand) → IsAttached devs old mid → ((bytes : List ℕ) × (new ≡ with_disk mid dev.0 dev.1 bytes)) → IsAttached (devs ++ dev ∷ []) old new
attached_more [] dev old mid new h d = (d.0, d.1 ∙ ap (λ s. with_disk s dev.0 dev.1 d.0) h)
attached_more (p ∷ devs) dev old mid new h d = (h.0, attached_more devs dev (with_disk old p.0 p.1 h.0) mid new h.1 d)

-- the paths of devices
abbrev pub paths_among : List (List ℕ × Option ℕ) → List (List ℕ)
paths_among devs = map (λ (dev : List ℕ × Option ℕ). dev.0) devs

-- the slots have these paths then
pub attached_paths : (devs : List (List ℕ × Option ℕ)) (old new : Stand) → IsAttached devs old new → new.paths ≡ old.paths ++ paths_among devs
attached_paths [] old new h = ap (λ s. s.paths) h ∙ sym (append-nil old.paths)
attached_paths (p ∷ devs) old new h = attached_paths devs (with_disk old p.0 p.1 h.0) new h.1 ∙ append_assoc old.paths (p.0 ∷ []) (paths_among devs)

-- which are all, where there was none
pub named_first : (devs : List (List ℕ × Option ℕ)) (named : List (List ℕ)) (old new : Stand) → length old.paths ≡ 0 → IsAttached devs old new → named ≡ paths_among devs → new.paths ≡ named
named_first devs named old new z h e = attached_paths devs old new h ∙ (ap (λ ps. ps ++ paths_among devs) (none old.paths z) ∙ sym e)
  where
    none : (xs : List (List ℕ)) → length xs ≡ 0 → xs ≡ []
    none [] e = refl
    none (x ∷ xs) e = absurd (omega arith)

-- one item more of those whose devices are attached
pub attached_next : {A : Type 0} (f : A → List ℕ × Option ℕ) (xs : List A) (i : ℕ) (d : A) (old mid new : Stand) → i < length xs
    → IsAttached (map f (take i xs)) old mid → ((bytes : List ℕ) × (new ≡ with_disk mid (f (get_or xs i d)).0 (f (get_or xs i d)).1 bytes)) → IsAttached (map f (take (i + 1) xs)) old new
attached_next f xs i d old mid new l h w =
    let front = ap (map f) (take_more xs i d l) ∙ map-append f (take i xs) (get_or xs i d ∷ []) in
    subst (λ devs. IsAttached devs old new) (sym front) (attached_more (map f (take i xs)) (f (get_or xs i d)) old mid new h w)

pub split_at : {A : Type 0} (xs : List A) (i : ℕ) (d : A) → i < length xs → take i xs ++ get_or xs i d ∷ drop (suc i) xs ≡ xs
split_at [] i d l = absurd (omega arith)
split_at (y ∷ xs) zero d l = refl
split_at (y ∷ xs) (suc i) d l = ap (λ ys. y ∷ ys) (split_at xs i d (omega arith))

-- or at which it failed
pub attached_partly : {A : Type 0} (f : A → List ℕ × Option ℕ) (xs : List A) (i : ℕ) (d : A) (old mid new : Stand) → i < length xs
    → IsAttached (map f (take i xs)) old mid → new ≡ mid → IsPartlyAttached (map f xs) old new
attached_partly f xs i d old mid new l h same = (
  map f (take i xs),
  f (get_or xs i d),
  map f (drop (suc i) xs),
  sym (map-append f (take i xs) (get_or xs i d ∷ drop (suc i) xs)) ∙ ap (map f) (split_at xs i d l),
  subst (λ s. IsAttached (map f (take i xs)) old s) (sym same) h,
)

pub more_sizes : (old new : List ℕ) (n i : ℕ) → ((size : ℕ) × (new ≡ old ++ size ∷ [])) → length old ≡ n + i → length new ≡ n + (i + 1)
more_sizes old new n i s e = let l = ap length s.1 ∙ length-append old (s.0 ∷ []) in omega arith

-- no run ends there for want of a device
pub not_attach_fault : (meaning : Meaning) (line : CommandLine) (opening now : Stand) → EndsBy meaning line AttachFault opening now → ⊥
not_attach_fault meaning line opening now h = by_case line.generate h
  where
    by_case : (n : Option (ℕ × ℕ)) → MatchOption n ⊥ (λ m. ⊥) → ⊥
    by_case None h = h
    by_case (Some m) h = h

-- the run that the words ask for is one over the input
pub by_serving : (meaning : Meaning) (line : CommandLine) (rounds : ℕ) (end : End) (opening now : Stand) → line.generate ≡ None → rounds ≡ rounds_in line → EndsAs meaning rounds end opening now → EndsBy meaning line end opening now
by_serving meaning line rounds end opening now none r h =
    subst (λ o. MatchOption o (EndsAs meaning (rounds_in line) end opening now) (λ n. GeneratesAs meaning (task_in line n) end opening now)) (sym none)
    (subst (λ k. EndsAs meaning k end opening now) r h)

-- or a generated one
pub by_generating : (meaning : Meaning) (line : CommandLine) (n : ℕ × ℕ) (devs : List (List ℕ)) (rounds : ℕ) (end : End) (opening now : Stand) → line.generate ≡ Some n → devs ≡ paths_in line → rounds ≡ rounds_in line
    → GeneratesAs meaning (record { number = n.0; count = n.1; devs = devs; rounds = rounds }) end opening now → EndsBy meaning line end opening now
by_generating meaning line n devs rounds end opening now some d r h =
    subst (λ o. MatchOption o (EndsAs meaning (rounds_in line) end opening now) (λ n. GeneratesAs meaning (task_in line n) end opening now)) (sym some)
    (subst (λ ps. GeneratesAs meaning (record { number = n.0; count = n.1; devs = ps; rounds = rounds_in line }) end opening now) d
    (subst (λ k. GeneratesAs meaning (record { number = n.0; count = n.1; devs = devs; rounds = k }) end opening now) r h))

-- a run behind all devices
pub opened_by : (meaning : Meaning) (line : CommandLine) (end : End) (devs : List (List ℕ × Option ℕ)) (old mid new : Stand) → IsAttached devs old mid → EndsBy meaning line end mid new → IsOpenedTo (EndsBy meaning line) end devs old new
opened_by meaning line Answered devs old mid new d h = (mid, d, h)
opened_by meaning line BadWords devs old mid new d h = (mid, d, h)
opened_by meaning line InputFault devs old mid new d h = (mid, d, h)
opened_by meaning line OutputFault devs old mid new d h = (mid, d, h)
opened_by meaning line DiskFault devs old mid new d h = (mid, d, h)
opened_by meaning line BadLine devs old mid new d h = (mid, d, h)
opened_by meaning line Damaged devs old mid new d h = (mid, d, h)
opened_by meaning line AttachFault devs old mid new d h = absurd (not_attach_fault meaning line mid new h)
opened_by meaning line InputLimit devs old mid new d h = (mid, d, h)
opened_by meaning line NoMemory devs old mid new d h = inr (inr (mid, d, h))

-- an end by its status
abbrev pub end_from : ℕ → End
end_from n =
    if n == 0 then Answered else (if n == 1 then BadWords else (if n == 2 then InputFault else (if n == 3 then OutputFault else (
    if n == 4 then DiskFault else (if n == 5 then BadLine else (if n == 6 then Damaged else (if n == 7 then AttachFault else (
    if n == 8 then InputLimit else (NoMemory)))))))))

known_end : (e : End) → e ≡ end_from (status_of e)
known_end Answered = refl
known_end BadWords = refl
known_end InputFault = refl
known_end OutputFault = refl
known_end DiskFault = refl
known_end BadLine = refl
known_end Damaged = refl
known_end AttachFault = refl
known_end InputLimit = refl
known_end NoMemory = refl

-- what a run came to by its status
pub opened_with : (meaning : Meaning) (line : CommandLine) (end : End) (n : ℕ) (devs : List (List ℕ × Option ℕ)) (old new : Stand) → status_of end ≡ n → IsOpenedTo (EndsBy meaning line) end devs old new → IsOpenedTo (EndsBy meaning line) (end_from n) devs old new
opened_with meaning line end n devs old new s h = subst (λ e. IsOpenedTo (EndsBy meaning line) e devs old new) (known_end end ∙ ap end_from s) h

pub known_status : (e : End) → status_of e ≤ 9
known_status Answered = omega arith
known_status BadWords = omega arith
known_status InputFault = omega arith
known_status OutputFault = omega arith
known_status DiskFault = omega arith
known_status BadLine = omega arith
known_status Damaged = omega arith
known_status AttachFault = omega arith
known_status InputLimit = omega arith
known_status NoMemory = omega arith

-- the same of the words
pub runs_to : (P : ℕ → Stand → Stand → Type 0) (Q : Task → Stand → Stand → Type 0) (names words : List (List ℕ)) (line : CommandLine) (old new : Stand)
    → IsStarted names words line → ((opening : Stand) × IsAttached line.devs old opening × MatchOption line.generate (P (rounds_in line) opening new) (λ n. Q (task_in line n) opening new)) → RunsTo P Q names words old new
runs_to P Q names words line old new s h = (line, h.0, s, h.1, h.2)

pub memory_at : (meaning : Meaning) (names words : List (List ℕ)) (line : CommandLine) (old new : Stand)
    → IsStarted names words line → IsOpenedTo (EndsBy meaning line) NoMemory line.devs old new
    → (new ≡ old) ⊎ StopsAtDevice names words old new ⊎ RunsTo (AnswersFront meaning) (TellsNothing meaning) names words old new
memory_at meaning names words line old new s (inl same) = inl same
memory_at meaning names words line old new s (inr (inl h)) = inr (inl (line, s, h))
memory_at meaning names words line old new s (inr (inr h)) = inr (inr (runs_to (AnswersFront meaning) (TellsNothing meaning) names words line old new s h))

-- what holds of any error
pub of_any_error : {T E : Type 0} (r : Result T E) (X : Type 0) → X → IfErr r (λ e. X)
of_any_error (Ok v) X x = tt
of_any_error (Err e) X x = x
