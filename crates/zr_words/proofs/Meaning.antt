-- What the uses say, as options and devices that are read.
use Rattle.std.proofs.Common.{◌≡◌, ◌∷◌, ℕ, List, [], Option, Some, None, refl, sym, ap, subst, ◌∙◌}
use Rattle.std.specs.Prelude.{filter_map, option_to_list}
use Rattle.std.specs.List.{AllZip}
use Rattle.zr_script.specs.CommandLine.{CommandLine as Line, IsDevice, policy_of, auto_of, generate_of, device_of}
use Rattle.zr_script.specs.declared.command.Argument.{Argument as Argued}
use Rattle.zr_script.specs.declared.command.Argument.TheVariants as argued
use Rattle.zr_words.specs.Reading.{AreEach, Gives, IsGenerate, IsPolicy, IsRounds, Means, Raw}
use Rattle.zr_words.proofs.Uses.{Use, auto, device, generate, given, policy}
use Rattle.zr_words.proofs.Given.{Says, no_words, text_for, word_for}

-- the use says the option or device
abbrev pub Valid : Use → Argued → Type 0
Valid (given policy value) (argued.Policy name) = IsPolicy value name
Valid (given auto value) (argued.Auto rounds) = IsRounds value rounds
Valid (given generate value) (argued.Generate number count) = IsGenerate value (number, count)
Valid (device word) (argued.Device path make) = IsDevice word path make
Valid _ _ = ⊥

-- the options and devices are those of the line
pub record Tells (arguments : List Argued) (line : Line) : Type 0 where
  pub policy : filter_map policy_of arguments ≡ option_to_list line.policy
  pub auto : filter_map auto_of arguments ≡ option_to_list line.auto
  pub generate : filter_map generate_of arguments ≡ option_to_list line.generate
  pub devs : filter_map device_of arguments ≡ line.devs

-- one value is all
one_value : {A : Type 0} (x : A) (rest : List A) (o : Option A) → x ∷ rest ≡ option_to_list o → (o ≡ Some x) × (rest ≡ [])
one_value x rest None e = absurd (cc)
one_value x rest (Some y) e = (cc, cc)

no_value : {A : Type 0} (o : Option A) → [] ≡ option_to_list o → o ≡ None
no_value None e = refl
no_value (Some y) e = absurd (cc)

gives_some : {A : Type 0} (P : List ℕ → A → Type 0) (o : Option (List ℕ)) (p : Option A) (text : List ℕ) → Gives P o p → o ≡ Some text → (x : A) × (p ≡ Some x) × P text x
gives_some P None None text h e = absurd (cc)
gives_some P None (Some x) text h e = absurd h
gives_some P (Some t) None text h e = absurd h
gives_some P (Some t) (Some x) text h e = let same : t ≡ text = cc in (x, refl, subst (λ t. P t x) same h)

gives_none : {A : Type 0} (P : List ℕ → A → Type 0) (o : Option (List ℕ)) (p : Option A) → Gives P o p → o ≡ None → p ≡ None
gives_none P None None h e = refl
gives_none P None (Some x) h e = absurd h
gives_none P (Some t) p h e = absurd (cc)

none_gives : {A : Type 0} (P : List ℕ → A → Type 0) (o : Option (List ℕ)) (p : Option A) → Gives P o p → p ≡ None → o ≡ None
none_gives P None None h e = refl
none_gives P None (Some x) h e = absurd h
none_gives P (Some t) None h e = absurd h
none_gives P (Some t) (Some x) h e = absurd (cc)

gives_at : {A : Type 0} (P : List ℕ → A → Type 0) (text : List ℕ) (x : A) (p : Option A) → p ≡ Some x → P text x → Gives P (Some text) p
gives_at P text x p e h = subst (Gives P (Some text)) (sym e) h

gives_nothing : {A : Type 0} (P : List ℕ → A → Type 0) (p : Option A) → p ≡ None → Gives P None p
gives_nothing P p e = subst (Gives P None) (sym e) tt

-- the first device
pub record FirstDevice (word : List ℕ) (rest : List (List ℕ)) (devs : List (List ℕ × Option ℕ)) : Type 0 where
  pub path : List ℕ
  pub make : Option ℕ
  pub more : List (List ℕ × Option ℕ)
  pub are : devs ≡ (path, make) ∷ more
  pub is : IsDevice word path make
  pub each : AreEach rest more

first_device : (words : List (List ℕ)) (devs : List (List ℕ × Option ℕ)) (word : List ℕ) (rest : List (List ℕ)) → AreEach words devs → word ∷ rest ≡ words → FirstDevice word rest devs
first_device [] devs word rest h e = absurd (cc)
first_device (w ∷ ws) [] word rest h e = absurd h
first_device (w ∷ ws) (d ∷ ds) word rest h e =
    let one : w ≡ word = cc in
    let all : ws ≡ rest = cc in
    record { path = d.0; make = d.1; more = ds; are = refl; is = subst (λ x. IsDevice x d.0 d.1) one h.0; each = subst (λ xs. AreEach xs ds) all h.1 }

no_devices : (words : List (List ℕ)) (devs : List (List ℕ × Option ℕ)) → AreEach words devs → [] ≡ words → devs ≡ []
no_devices [] [] h e = refl
no_devices [] (d ∷ ds) h e = absurd h
no_devices (w ∷ ws) devs h e = absurd (cc)

-- uses that say what a line says are options and devices of the line
pub record Meant (uses : List Use) (line : Line) : Type 0 where
  pub arguments : List Argued
  pub valid : AllZip Valid uses arguments
  pub tells : Tells arguments line

pub meant : (uses : List Use) (raw : Raw) (line : Line) → Says uses raw → Means raw line → Meant uses line
meant [] raw line s m = record {
  arguments = [];
  valid = tt;
  tells = record {
    policy = ap option_to_list (sym (gives_none IsPolicy raw.policy line.policy m.policy (no_value raw.policy s.policy)));
    auto = ap option_to_list (sym (gives_none IsRounds raw.auto line.auto m.auto (no_value raw.auto s.auto)));
    generate = ap option_to_list (sym (gives_none IsGenerate raw.generate line.generate m.generate (no_value raw.generate s.generate)));
    devs = sym (no_devices raw.devs line.devs m.devs s.devs);
  };
}
meant (given policy value ∷ uses) raw line s m =
    let one = one_value value (filter_map (text_for policy) uses) raw.policy s.policy in
    let is = gives_some IsPolicy raw.policy line.policy value m.policy one.0 in
    let more = meant uses (record raw { policy = None }) (record line { policy = None }) (record { policy = one.1; auto = s.auto; generate = s.generate; devs = s.devs })
    (record { policy = tt; auto = m.auto; generate = m.generate; devs = m.devs }) in
    record {
      arguments = argued.Policy is.0 ∷ more.arguments;
      valid = (is.2, more.valid);
      tells = record { policy = ap (λ l. is.0 ∷ l) more.tells.policy ∙ ap option_to_list (sym is.1); auto = more.tells.auto; generate = more.tells.generate; devs = more.tells.devs };
    }
meant (given auto value ∷ uses) raw line s m =
    let one = one_value value (filter_map (text_for auto) uses) raw.auto s.auto in
    let is = gives_some IsRounds raw.auto line.auto value m.auto one.0 in
    let more = meant uses (record raw { auto = None }) (record line { auto = None }) (record { policy = s.policy; auto = one.1; generate = s.generate; devs = s.devs })
    (record { policy = m.policy; auto = tt; generate = m.generate; devs = m.devs }) in
    record {
      arguments = argued.Auto is.0 ∷ more.arguments;
      valid = (is.2, more.valid);
      tells = record { policy = more.tells.policy; auto = ap (λ l. is.0 ∷ l) more.tells.auto ∙ ap option_to_list (sym is.1); generate = more.tells.generate; devs = more.tells.devs };
    }
meant (given generate value ∷ uses) raw line s m =
    let one = one_value value (filter_map (text_for generate) uses) raw.generate s.generate in
    let is = gives_some IsGenerate raw.generate line.generate value m.generate one.0 in
    let more = meant uses (record raw { generate = None }) (record line { generate = None }) (record { policy = s.policy; auto = s.auto; generate = one.1; devs = s.devs })
    (record { policy = m.policy; auto = m.auto; generate = tt; devs = m.devs }) in
    record {
      arguments = argued.Generate is.0.0 is.0.1 ∷ more.arguments;
      valid = (is.2, more.valid);
      tells = record { policy = more.tells.policy; auto = more.tells.auto; generate = ap (λ l. is.0 ∷ l) more.tells.generate ∙ ap option_to_list (sym is.1); devs = more.tells.devs };
    }
meant (device word ∷ uses) raw line s m =
    let one = first_device raw.devs line.devs word (filter_map word_for uses) m.devs s.devs in
    let more = meant uses (record raw { devs = filter_map word_for uses }) (record line { devs = one.more }) (record { policy = s.policy; auto = s.auto; generate = s.generate; devs = refl })
    (record { policy = m.policy; auto = m.auto; generate = m.generate; devs = one.each }) in
    record {
      arguments = argued.Device one.path one.make ∷ more.arguments;
      valid = (one.is, more.valid);
      tells = record { policy = more.tells.policy; auto = more.tells.auto; generate = more.tells.generate; devs = ap (λ l. (one.path, one.make) ∷ l) more.tells.devs ∙ sym one.are };
    }

-- options and devices of a line, of which the uses say each
pub record Told (uses : List Use) (line : Line) : Type 0 where
  pub raw : Raw
  pub says : Says uses raw
  pub means : Means raw line

no_devs_left : (devs : List (List ℕ × Option ℕ)) → [] ≡ devs → AreEach [] devs
no_devs_left devs e = subst (AreEach []) e tt

each_device : (word path : List ℕ) (make : Option ℕ) (words : List (List ℕ)) (more devs : List (List ℕ × Option ℕ)) → (path, make) ∷ more ≡ devs → IsDevice word path make → AreEach words more → AreEach (word ∷ words) devs
each_device word path make words more devs e d h = subst (AreEach (word ∷ words)) e (d, h)

pub told : (uses : List Use) (arguments : List Argued) (line : Line) → AllZip Valid uses arguments → Tells arguments line → Told uses line
told [] [] line h t = record {
  raw = no_words;
  says = record { policy = refl; auto = refl; generate = refl; devs = refl };
  means = record {
    policy = gives_nothing IsPolicy line.policy (no_value line.policy t.policy);
    auto = gives_nothing IsRounds line.auto (no_value line.auto t.auto);
    generate = gives_nothing IsGenerate line.generate (no_value line.generate t.generate);
    devs = no_devs_left line.devs t.devs;
  };
}
told [] (a ∷ arguments) line h t = absurd h
told (u ∷ uses) [] line h t = absurd h
told (given policy value ∷ uses) (argued.Policy name ∷ arguments) line h t =
    let one = one_value name (filter_map policy_of arguments) line.policy t.policy in
    let more = told uses arguments (record line { policy = None }) h.1 (record { policy = one.1; auto = t.auto; generate = t.generate; devs = t.devs }) in
    let none = none_gives IsPolicy more.raw.policy None more.means.policy refl in
    record {
      raw = record more.raw { policy = Some value };
      says = record { policy = ap (λ l. value ∷ l) (more.says.policy ∙ ap option_to_list none); auto = more.says.auto; generate = more.says.generate; devs = more.says.devs };
      means = record { policy = gives_at IsPolicy value name line.policy one.0 h.0; auto = more.means.auto; generate = more.means.generate; devs = more.means.devs };
    }
told (given auto value ∷ uses) (argued.Auto rounds ∷ arguments) line h t =
    let one = one_value rounds (filter_map auto_of arguments) line.auto t.auto in
    let more = told uses arguments (record line { auto = None }) h.1 (record { policy = t.policy; auto = one.1; generate = t.generate; devs = t.devs }) in
    let none = none_gives IsRounds more.raw.auto None more.means.auto refl in
    record {
      raw = record more.raw { auto = Some value };
      says = record { policy = more.says.policy; auto = ap (λ l. value ∷ l) (more.says.auto ∙ ap option_to_list none); generate = more.says.generate; devs = more.says.devs };
      means = record { policy = more.means.policy; auto = gives_at IsRounds value rounds line.auto one.0 h.0; generate = more.means.generate; devs = more.means.devs };
    }
told (given generate value ∷ uses) (argued.Generate number count ∷ arguments) line h t =
    let one = one_value (number, count) (filter_map generate_of arguments) line.generate t.generate in
    let more = told uses arguments (record line { generate = None }) h.1 (record { policy = t.policy; auto = t.auto; generate = one.1; devs = t.devs }) in
    let none = none_gives IsGenerate more.raw.generate None more.means.generate refl in
    record {
      raw = record more.raw { generate = Some value };
      says = record { policy = more.says.policy; auto = more.says.auto; generate = ap (λ l. value ∷ l) (more.says.generate ∙ ap option_to_list none); devs = more.says.devs };
      means = record { policy = more.means.policy; auto = more.means.auto; generate = gives_at IsGenerate value (number, count) line.generate one.0 h.0; devs = more.means.devs };
    }
told (device word ∷ uses) (argued.Device path make ∷ arguments) line h t =
    let more = told uses arguments (record line { devs = filter_map device_of arguments }) h.1 (record { policy = t.policy; auto = t.auto; generate = t.generate; devs = refl }) in
    record {
      raw = record more.raw { devs = word ∷ more.raw.devs };
      says = record { policy = more.says.policy; auto = more.says.auto; generate = more.says.generate; devs = ap (λ l. word ∷ l) more.says.devs };
      means = record {
        policy = more.means.policy;
        auto = more.means.auto;
        generate = more.means.generate;
        devs = each_device word path make more.raw.devs (filter_map device_of arguments) line.devs t.devs h.0 more.means.devs;
      };
    }
told (u ∷ uses) (a ∷ arguments) line h t = absurd h.0
