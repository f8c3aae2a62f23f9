-- How words are read.
use Rattle.std.specs.Prelude.{◌≡◌, ◌⊎◌, ⊤, ℕ, ◌≤◌, IsTrue, List, [], ◌∷◌, ◌++◌, length, codes, map, filter_map, Option, Some, None, option_to_list, unwrap_or}
use Rattle.std.specs.List.{AllZip, flat_map, list_all}
use Rattle.clap.specs.Words.{Row, all_of, first_of}
use Rattle.zr_script.specs.CommandLine.{CommandLine as Line, IsArgument, IsDevice, policy_of, auto_of, generate_of, device_of}
use Rattle.zr_script.specs.declared.command.Argument.{Argument as Argued}
use Rattle.zr_script.specs.Words.{IsNumber, is_path, are_different}

-- each word is the device
abbrev pub AreEach : List (List ℕ) → List (List ℕ × Option ℕ) → Type 0
AreEach words devs = AllZip (λ word dev. IsDevice word dev.0 dev.1) words devs

-- how many lines a generated script has
pub record IsCount (word : List ℕ) (n : ℕ) : Type 0 where
  pub number : IsNumber word n
  pub some : 1 ≤ n
  pub most : n ≤ 1000000

-- what the value of each option says
abbrev pub IsPolicy : List ℕ → List ℕ → Type 0
IsPolicy value name = (value ≡ name) × ((rest : List ℕ) → value ≡ 45 ∷ rest → ⊥)

abbrev pub IsRounds : List ℕ → ℕ → Type 0
IsRounds value rounds = IsNumber value rounds × (rounds ≤ 1000)

abbrev pub IsGenerate : List ℕ → ℕ × ℕ → Type 0
IsGenerate value generate = (a : List ℕ) × (b : List ℕ) × (value ≡ a ++ 58 ∷ b) × IsNumber a generate.0 × IsCount b generate.1

-- the values of the options and the words of the devices, as `clap` finds them
pub record Raw : Type 0 where
  pub policy : Option (List ℕ)
  pub auto : Option (List ℕ)
  pub generate : Option (List ℕ)
  pub devs : List (List ℕ)

abbrev pub raw_of : List Row → Raw
raw_of rows = record {
  policy = first_of (codes "policy") rows;
  auto = first_of (codes "auto") rows;
  generate = first_of (codes "gen") rows;
  devs = unwrap_or (all_of (codes "devs") rows) [];
}

-- neither is there, or the text says the value
abbrev pub Gives : {A : Type 0} → (List ℕ → A → Type 0) → Option (List ℕ) → Option A → Type 0
Gives says None None = ⊤
Gives says None (Some value) = ⊥
Gives says (Some text) None = ⊥
Gives says (Some text) (Some value) = says text value

-- the line is what the values and the words of the devices say
pub record Means (raw : Raw) (line : Line) : Type 0 where
  pub policy : Gives IsPolicy raw.policy line.policy
  pub auto : Gives IsRounds raw.auto line.auto
  pub generate : Gives IsGenerate raw.generate line.generate
  pub devs : AreEach raw.devs line.devs

-- the words spell the line, whether or not it is whole
pub record Spells (words : List (List ℕ)) (line : Line) : Type 0 where
  pub front : List (List (List ℕ))
  pub arguments : List Argued
  pub each : AllZip IsArgument front arguments
  pub back : List (List ℕ)
  pub devices : List (List ℕ × Option ℕ)
  pub rest : AreEach back devices
  pub joins : ((words ≡ flat_map (λ part. part) front) × (back ≡ [])) ⊎ (words ≡ flat_map (λ part. part) front ++ codes "--" ∷ back)
  pub policy : filter_map policy_of arguments ≡ option_to_list line.policy
  pub auto : filter_map auto_of arguments ≡ option_to_list line.auto
  pub generate : filter_map generate_of arguments ≡ option_to_list line.generate
  pub devs : filter_map device_of arguments ++ devices ≡ line.devs

-- each device has a path
abbrev pub HasPaths : Line → Type 0
HasPaths line = IsTrue (list_all is_path (map (λ dev. dev.0) line.devs))

-- 1 to 32 devices with different paths, and three where a script is generated
pub record IsWhole (line : Line) : Type 0 where
  pub some : 1 ≤ length line.devs
  pub most : length line.devs ≤ 32
  pub different : IsTrue (are_different (map (λ dev. dev.0) line.devs))
  pub enough : (n : ℕ × ℕ) → line.generate ≡ Some n → 3 ≤ length line.devs
