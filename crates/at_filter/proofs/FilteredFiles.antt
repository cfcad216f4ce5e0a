-- How files, and what is left of one, are filtered.
use Rattle.std.proofs.Common.{◌≡◌, ◌≤◌, ℕ, Bool, true, false, if◌then◌else◌, List, [], ◌∷◌, ◌++◌, take, drop}
use Rattle.std.proofs.Common.{length, refl, ap, sym, ◌∙◌, arith, Option, Some, None, IfSome, IsSome, option_map, bytes_eq, min}
use Rattle.std.proofs.Common.{Result, Ok, Err, OnOk}
use Rattle.std.proofs.lemmas.List.{take-append-drop, length-take, length-take-le, take_at, drop_at}
use Rattle.at_io.specs.Files.{Files, bytes_named, name_among}
use Rattle.at_filter.specs.declared.filter.Filter.{Filter}
use Rattle.at_filter.specs.declared.filter.Seen.{Seen}
use Rattle.at_filter.specs.declared.filter.Seen.TheVariants.{Nothing}
use Rattle.at_filter.specs.Filters.{filtered, seen_behind, filtered_files}
use Rattle.at_filter.proofs.Filtering.{as_many, halves}

-- what filtered files have under a name
named_by : (f : Filter) (file : List ℕ × List ℕ) (t : Bool) (rest filtered_rest : Option (List ℕ)) → filtered_rest ≡ option_map (filtered f Nothing) rest → (if t then Some (filtered f Nothing file.1) else filtered_rest) ≡ option_map (filtered f Nothing) (if t then Some file.1 else rest)
named_by f file true rest filtered_rest h = refl
named_by f file false rest filtered_rest h = h

pub named_of_filtered : (f : Filter) (files : Files) (name : List ℕ) → bytes_named (filtered_files f files) name ≡ option_map (filtered f Nothing) (bytes_named files name)
named_of_filtered f [] name = refl
named_of_filtered f (file ∷ files) name = named_by f file (bytes_eq file.0 name) (bytes_named files name) (bytes_named (filtered_files f files) name) (named_of_filtered f files name)

same_name : (f : Filter) (name : List ℕ) (found : Option (List ℕ)) → option_map (λ _. name) (option_map (filtered f Nothing) found) ≡ option_map (λ _. name) found
same_name f name None = refl
same_name f name (Some bytes) = refl

pub name_of_filtered : (f : Filter) (files : Files) (name : List ℕ) → name_among (filtered_files f files) name ≡ name_among files name
name_of_filtered f files name = ap (option_map (λ _. name)) (named_of_filtered f files name) ∙ same_name f name (bytes_named files name)

-- a begin of a file
begun_some : (f : Filter) (left : Option (List ℕ)) → IsSome left → IsSome (option_map (filtered f Nothing) left)
begun_some f None h = h
begun_some f (Some bytes) h = refl

pub begun : (f : Filter) (files : Option Files) (left : Option (List ℕ)) (name : List ℕ) → IfSome files (λ told. IsSome left × (left ≡ bytes_named told name)) → IfSome (option_map (filtered_files f) files) (λ told. IsSome (option_map (filtered f Nothing) left) × (option_map (filtered f Nothing) left ≡ bytes_named told name))
begun f None left name h = tt
begun f (Some files) left name h = (begun_some f left h.0, ap (option_map (filtered f Nothing)) h.1 ∙ sym (named_of_filtered f files name))

pub begun_ok : {X Y : Type 0} (f : Filter) (r : Result X Y) (files : Option Files) (left : Option (List ℕ)) (name : List ℕ) → OnOk r (IfSome files (λ told. IsSome left × (left ≡ bytes_named told name))) → OnOk r (IfSome (option_map (filtered_files f) files) (λ told. IsSome (option_map (filtered f Nothing) left) × (option_map (filtered f Nothing) left ≡ bytes_named told name)))
begun_ok f (Ok x) files left name h = begun f files left name h
begun_ok f (Err y) files left name h = tt

pub begun_name : (f : Filter) (files : Option Files) (named : Option (List ℕ)) (name : List ℕ) → IfSome files (λ told. named ≡ name_among told name) → IfSome (option_map (filtered_files f) files) (λ told. named ≡ name_among told name)
begun_name f None named name h = tt
begun_name f (Some files) named name h = h ∙ sym (name_of_filtered f files name)

-- the two parts of what is filtered
long_enough : (n : ℕ) (mid told : List ℕ) → take n mid ≡ take n told → n ≤ length mid → n ≤ length told
long_enough n mid told same less =
    let long : min n (length told) ≡ n = sym (length-take n told) ∙ ap length (sym same) ∙ length-take-le n mid less in omega (arith, long)

split_at : (f : Filter) (seen : Seen) (n : ℕ) (told : List ℕ) → filtered f seen told ≡ filtered f seen (take n told) ++ filtered f (seen_behind f seen (take n told)) (drop n told)
split_at f seen n told = ap (filtered f seen) (sym (take-append-drop n told)) ∙ halves f seen (take n told) (drop n told)

front_of : (f : Filter) (seen : Seen) (n : ℕ) (told : List ℕ) → n ≤ length told → take n (filtered f seen told) ≡ filtered f seen (take n told)
front_of f seen n told less = ap (take n) (split_at f seen n told) ∙ take_at (filtered f seen (take n told)) _ n (as_many f seen (take n told) ∙ length-take-le n told less)

rest_of : (f : Filter) (seen : Seen) (n : ℕ) (told : List ℕ) → n ≤ length told → drop n (filtered f seen told) ≡ filtered f (seen_behind f seen (take n told)) (drop n told)
rest_of f seen n told less = ap (drop n) (split_at f seen n told) ∙ drop_at (filtered f seen (take n told)) _ n (as_many f seen (take n told) ∙ length-take-le n told less)

-- a read of some of what is left
pub read_on : (f : Filter) (seen : Seen) (n : ℕ) (room : List ℕ) (left left' : Option (List ℕ)) (mid : List ℕ) → IfSome left (λ told. (take n mid ≡ take n told) × (left' ≡ Some (drop n told))) → take n room ≡ filtered f seen (take n mid) → n ≤ length mid → IfSome (option_map (filtered f seen) left) (λ told. (take n room ≡ take n told) × (option_map (filtered f (seen_behind f seen (take n mid))) left' ≡ Some (drop n told)))
read_on f seen n room None left' mid h is less = tt
read_on f seen n room (Some told) left' mid h is less =
    let long = long_enough n mid told h.0 less in (
      is ∙ ap (filtered f seen) h.0 ∙ sym (front_of f seen n told long),
      ap (option_map (filtered f (seen_behind f seen (take n mid)))) h.1 ∙ ap (λ w. Some (filtered f (seen_behind f seen w) (drop n told))) h.0 ∙ ap Some (sym (rest_of f seen n told long)),
    )
