-- A word is a device in one way.
use Rattle.std.proofs.Common.{◌≡◌, ◌≢◌, ℕ, zero, suc, ◌+◌, ◌<◌, ◌≤◌, [], map, take, Bool, true, false, not, eqb, ltb, leb, ◌&&◌, IsTrue, List, ◌∷◌, ◌++◌, length, get_or, Option, Some, None, Bor, refl, sym, ap, subst, ◌∙◌, arith, length-append, lit<}
use Rattle.std.specs.List.{list_all}
use Rattle.std.proofs.lemmas.Bool.{false≢true}
use Rattle.std.proofs.lemmas.List.Folds.{list_all_at}
use Rattle.std.proofs.lemmas.Str.Pattern.{IsSplitOnceResult, split_after, split_parts}
use Rattle.std.proofs.lemmas.List.{get_or_at, take_more, map-append, append-nil}
use Rattle.zr_script.specs.Words.{is_path, is_path_byte, is_letter, is_digit, IsNumber}
use Rattle.zr_script.specs.CommandLine.{IsDevice}
use Rattle.zr_script.proofs.Reading.{same_number}
use Rattle.zr_words.specs.declared.device.Device.{Device}
use Rattle.zr_words.specs.Views.{device_of}
use Rattle.zr_words.specs.Reading.{AreEach}
use Rattle.zr_words.proofs.Texts.{HasNo, before_byte}

last_true : (a b : Bool) → (a && b) ≡ true → b ≡ true
last_true true b e = e
last_true false b e = absurd (false≢true e)

colon : is_path_byte 58 ≡ false
unfolding is_path_byte is_letter is_digit
colon = refl

-- a path has no colon
pub no_colon : (path : List ℕ) → is_path path ≡ true → HasNo 58 path
no_colon path e i l c = false≢true (sym (list_all_at is_path_byte path i 0 l (ap is_path_byte c ∙ colon)) ∙ last_true _ (list_all is_path_byte path) e)

colon_at : (path digits word : List ℕ) → word ≡ path ++ 58 ∷ digits → (length path < length word) × (get_or word (length path) 0 ≡ 58)
colon_at path digits word e =
    let n = ap length e ∙ length-append path (58 ∷ digits) in
    (omega arith, ap (λ w. get_or w (length path) 0) e ∙ get_or_at path 58 digits 0 (length path) refl)

-- a word without a colon
pub none_whole : (word path : List ℕ) (make : Option ℕ) → HasNo 58 word → is_path word ≡ false → IsDevice word path make → ⊥
none_whole word path None free bad h = false≢true (sym bad ∙ (ap is_path h.0 ∙ h.1))
none_whole word path (Some n) free bad h = let at = colon_at path h.0 word h.1 in free (length path) at.0 at.1

pub record Parts (front back path : List ℕ) : Type 0 where
  pub size : ℕ
  pub path_is : front ≡ path
  pub is_path : IsTrue (is_path path)
  pub number : IsNumber back size
  pub most : size ≤ 137438953472

-- a word with a colon: what is a device of it is its two parts
pub parts_of : (word path : List ℕ) (make : Option ℕ) (front back : Bor (List ℕ)) → IsSplitOnceResult 58 word (Some (front, back)) → IsDevice word path make → Parts front.now back.now path
parts_of word path None front back r h =
    let parts = split_parts 58 word (Some (front, back)) r (lit< tt) in
    let at = colon_at front.now back.now path (sym h.0 ∙ parts.0) in
    absurd (no_colon path h.1 (length front.now) at.0 at.1)
parts_of word path (Some n) front back r h =
    let same = split_after 58 word path h.0 (Some (front, back)) r (lit< tt) h.1 (no_colon path h.2) in
    record { size = n; path_is = same.0; is_path = h.2; number = subst (λ d. IsNumber d n) (sym same.1) h.3; most = h.4 }

-- a word is one device at most
pub one_device : (word p q : List ℕ) (m n : Option ℕ) → IsDevice word p m → IsDevice word q n → (p ≡ q) × (m ≡ n)
one_device word p q None None h k = (sym h.0 ∙ k.0, refl)
one_device word p q None (Some n) h k = let at = colon_at q k.0 p (sym h.0 ∙ k.1) in absurd (no_colon p h.1 (length q) at.0 at.1)
one_device word p q (Some m) None h k = let at = colon_at p h.0 q (sym k.0 ∙ h.1) in absurd (no_colon q k.1 (length p) at.0 at.1)
one_device word p q (Some m) (Some n) h k =
    let same = before_byte 58 p q h.0 k.0 (no_colon p h.2) (no_colon q k.2) (sym h.1 ∙ k.1) in
    (same.0, ap Some (same_number k.0 m n (subst (λ d. IsNumber d m) same.1 h.3) k.3))

path_first : (path more : List ℕ) → is_path path ≡ true → (0 < length path) × (get_or (path ++ more) 0 0 ≢ 45)
path_first [] more e = absurd (false≢true e)
path_first (x ∷ path) more e = (omega arith, λ s. false≢true (dashed x path s e))
  where
    dashed : (x : ℕ) (path : List ℕ) → x ≡ 45 → is_path (x ∷ path) ≡ true → false ≡ true
    dashed x path s e = let dash : not (eqb x 45) ≡ false = ap (λ b. not (eqb b 45)) s in third (ltb 0 (length (x ∷ path))) (leb (length (x ∷ path)) 255) (not (eqb x 45)) (list_all is_path_byte (x ∷ path)) dash e
      where
        third : (a b c d : Bool) → c ≡ false → (((a && b) && c) && d) ≡ true → false ≡ true
        third true true true d f e = sym f
        third true true false d f e = e
        third true false c d f e = e
        third false b c d f e = e

-- a device does not begin with '-'
pub device_first : (word path : List ℕ) (make : Option ℕ) → IsDevice word path make → get_or word 0 0 ≢ 45
device_first word path None h = λ s. (path_first path [] h.1).1 (ap (λ w. get_or w 0 0) (append-nil path ∙ sym h.0) ∙ s)
device_first word path (Some n) h = λ s. (path_first path (58 ∷ h.0) h.2).1 (ap (λ w. get_or w 0 0) (sym h.1) ∙ s)

-- words are devices in one way
pub same_devices : (words : List (List ℕ)) (ds es : List (List ℕ × Option ℕ)) → AreEach words ds → AreEach words es → ds ≡ es
same_devices [] [] [] h k = refl
same_devices [] [] (e ∷ es) h k = absurd k
same_devices [] (d ∷ ds) es h k = absurd h
same_devices (w ∷ ws) [] es h k = absurd h
same_devices (w ∷ ws) (d ∷ ds) [] h k = absurd k
same_devices (w ∷ ws) (d ∷ ds) (e ∷ es) h k =
    let s = one_device w d.0 e.0 d.1 e.1 h.0 k.0 in
    let first : d ≡ e = ap (λ p. (p, d.1)) s.0 ∙ ap (λ m. (e.0, m)) s.1 in
    ap (λ x. x ∷ ds) first ∙ ap (λ xs. e ∷ xs) (same_devices ws ds es h.1 k.1)

-- one word that is no device
pub none_each : {A : Type 0} (f : A → List ℕ) (words : List A) (other : A) (i : ℕ) (devs : List (List ℕ × Option ℕ)) → i < length words
    → ((path : List ℕ) (make : Option ℕ) → IsDevice (f (get_or words i other)) path make → ⊥) → AreEach (map f words) devs → ⊥
none_each f [] other i devs l n h = omega arith
none_each f (w ∷ words) other i [] l n h = h
none_each f (w ∷ words) other zero (d ∷ devs) l n h = n d.0 d.1 h.0
none_each f (w ∷ words) other (suc i) (d ∷ devs) l n h = none_each f words other i devs (omega arith) n h.1

each_more : (words : List (List ℕ)) (devs : List (List ℕ × Option ℕ)) (word : List ℕ) (dev : List ℕ × Option ℕ) → AreEach words devs → IsDevice word dev.0 dev.1 → AreEach (words ++ word ∷ []) (devs ++ dev ∷ [])
each_more [] [] word dev h r = (r, tt)
each_more [] (d ∷ devs) word dev h r = absurd h
each_more (w ∷ words) [] word dev h r = absurd h
each_more (w ∷ words) (d ∷ devs) word dev h r = (h.0, each_more words devs word dev h.1 r)

-- one word more is read
pub each_next : {A : Type 0} (f : A → List ℕ) (words : List A) (other : A) (i : ℕ) (devices more : List Device) (device : Device) → i < length words
    → AreEach (map f (take i words)) (map device_of devices) → IsDevice (f (get_or words i other)) device.path.now device.make → more ≡ devices ++ device ∷ []
    → AreEach (map f (take (i + 1) words)) (map device_of more)
each_next f words other i devices more device l h r m =
    let word = get_or words i other in
    let front = ap (map f) (take_more words i other l) ∙ map-append f (take i words) (word ∷ []) in
    let back = ap (map device_of) m ∙ map-append device_of devices (device ∷ []) in
    subst (λ d. AreEach (map f (take (i + 1) words)) d) (sym back)
    (subst (λ w. AreEach w (map device_of devices ++ device_of device ∷ [])) (sym front)
    (each_more (map f (take i words)) (map device_of devices) (f word) (device_of device) h r))
