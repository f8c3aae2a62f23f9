-- What a use of an argument makes of the rows.
use Rattle.std.proofs.Common.{◌≡◌, Bool, true, false, List, [], ◌∷◌, ◌++◌, Option, Some, None, is_some, refl, sym, ap, ◌∙◌}
use Rattle.std.specs.Prelude.{option_map, option_and_then, unwrap_or, slice_get, find}
use Rattle.std.specs.Str.{bytes_eq}
use Rattle.std.proofs.lemmas.Bool.{false≢true}
use Rattle.std.proofs.lemmas.Slice.Eq.{bytes_eq-Decides}
use Rattle.clap.specs.Walk.{Row, Text, all_of, first_of, has_row, without, with_values}
use Rattle.clap.specs.declared.builder.value_parser.Reading.{Reading}
use Rattle.clap.specs.declared.parser.matches.ValueSource.{ValueSource}

-- the first of the values
abbrev pub head_of : Option (List Text) → Option Text
head_of = option_and_then (λ values. slice_get values 0)

pub first_from_all : (id : Text) (rows : List Row) → first_of id rows ≡ head_of (all_of id rows)
first_from_all id rows = go (find (λ r. bytes_eq r.id id) rows)
  where
    go : (found : Option Row) → option_and_then (λ r. slice_get r.values 0) found ≡ head_of (option_map (λ r. r.values) found)
    go None = refl
    go (Some r) = refl

-- a row of this id at the front, or none
here : (id : Text) (r : Row) (rows : List Row) → bytes_eq r.id id ≡ true → all_of id (r ∷ rows) ≡ Some r.values
here id r rows e = rw e refl

past : (id : Text) (r : Row) (rows : List Row) → bytes_eq r.id id ≡ false → all_of id (r ∷ rows) ≡ all_of id rows
past id r rows e = rw e refl

pub has_from_all : (id : Text) (rows : List Row) → has_row id rows ≡ is_some (all_of id rows)
has_from_all id [] = refl
has_from_all id (r ∷ rows) = go (bytes_eq r.id id) refl (has_from_all id rows)
  where
    go : (b : Bool) → bytes_eq r.id id ≡ b → has_row id rows ≡ is_some (all_of id rows) → has_row id (r ∷ rows) ≡ is_some (all_of id (r ∷ rows))
    go true e more = rw e refl
    go false e more = rw e more

pub without_none : (id : Text) (rows : List Row) → all_of id rows ≡ None → without id rows ≡ rows
without_none id [] e = refl
without_none id (r ∷ rows) e = go (bytes_eq r.id id) refl (without_none id rows)
  where
    go : (b : Bool) → bytes_eq r.id id ≡ b → (all_of id rows ≡ None → without id rows ≡ rows) → without id (r ∷ rows) ≡ r ∷ rows
    go true t more = let bad : None ≡ Some r.values = sym e ∙ here id r rows t in absurd (cc)
    go false t more = rw t (ap (λ rs. r ∷ rs) (more (sym (past id r rows t) ∙ e)))

same_id : (id : Text) → bytes_eq id id ≡ true
same_id id = (bytes_eq-Decides id id).1 refl

-- the values of the argument that is used
pub values_here : (id : Text) (how : Reading) (s : ValueSource) (values : List Text) (rows : List Row) → all_of id (with_values id how s values rows) ≡ Some (unwrap_or (all_of id rows) [] ++ values)
values_here id how s values [] = rw (same_id id) refl
values_here id how s values (r ∷ rows) = go (bytes_eq r.id id) refl (values_here id how s values rows)
  where
    go : (b : Bool) → bytes_eq r.id id ≡ b → all_of id (with_values id how s values rows) ≡ Some (unwrap_or (all_of id rows) [] ++ values)
        → all_of id (with_values id how s values (r ∷ rows)) ≡ Some (unwrap_or (all_of id (r ∷ rows)) [] ++ values)
    go true e more = rw (e, e) refl
    go false e more = rw (e, e) more

-- the values of any other
pub values_there : (id other : Text) (how : Reading) (s : ValueSource) (values : List Text) (rows : List Row) → bytes_eq id other ≡ false → all_of other (with_values id how s values rows) ≡ all_of other rows
values_there id other how s values [] d = rw d refl
values_there id other how s values (r ∷ rows) d = go (bytes_eq r.id id) refl (bytes_eq r.id other) refl (values_there id other how s values rows d)
  where
    go : (a : Bool) → bytes_eq r.id id ≡ a → (b : Bool) → bytes_eq r.id other ≡ b → all_of other (with_values id how s values rows) ≡ all_of other rows
        → all_of other (with_values id how s values (r ∷ rows)) ≡ all_of other (r ∷ rows)
    go true e true f more =
        let same : r.id ≡ id = (bytes_eq-Decides r.id id).0 e in
        absurd (false≢true (sym d ∙ (ap (λ x. bytes_eq x other) (sym same) ∙ f)))
    go true e false f more = rw (e, f) refl
    go false e true f more = rw (e, f) refl
    go false e false f more = rw (e, f) more
