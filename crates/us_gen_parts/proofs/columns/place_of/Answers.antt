use Rattle.std.proofs.Common.{◌≡◌, ◌<◌, List, map, length, get_or, sym, ap, subst, refl, ◌∙◌}
use Rattle.std.proofs.lemmas.List.{length-map}
use Rattle.std.specs.Prelude.{Some}
use Rattle.std.specs.List.{position, position_or_len}
use Rattle.us_format.specs.Lists.{nth}
use Rattle.us_format.specs.Declaration.{Column, same_column}
use Rattle.us_format.specs.Packs.{in_pack}
use Rattle.us_decl.specs.declared.column.Column as columns
use Rattle.us_judge.specs.Views.{column_of, plain_part}
use Rattle.us_gen_parts.proofs.PackColumns.{position-some, pack-there}
use Rattle.us_gen_parts.proofs.ColumnPlaces.{place-packed, place-own}
use Rattle.us_gen_parts.proofs.columns.place_of.Goals as goal

pub returns-in-Some : goal.returns-in-Some
returns-in-Some c =
    let p = plain_part c.args.part.now in
    let at : position (in_pack (column_of c.args.column)) (map (map column_of) c.args.part.now.packs) ≡ Some c.in-Some.pack = sym c.pack_with.ensures ∙ c.in-Some.is in
    let below : c.in-Some.pack < length c.args.part.now.packs =
    subst (λ n. c.in-Some.pack < n) (length-map c.args.part.now.packs (map column_of)) (position-some (in_pack (column_of c.args.column)) (map (map column_of) c.args.part.now.packs) c.in-Some.pack at).1 in
    let pack : map column_of c.index-as_slice-pack.result ≡ nth (map (map column_of) c.args.part.now.packs) c.in-Some.pack =
    pack-there column_of c.args.part.now.packs c.in-Some.pack c.index-as_slice-pack.result below
    (c.index-as_slice-pack.is ∙ ap (λ (xs : List (List columns.Column)). get_or xs c.in-Some.pack c.index-as_slice-pack.result) c.as_slice.ensures) in
    place-packed c.args.start p (column_of c.args.column) _ c.args.first_pack c.in-Some.pack c.len.result c.column_in.result at c.requires.first refl
    (c.column_in.ensures ∙ ap (λ (cs : List Column). position_or_len (same_column (column_of c.args.column)) cs) pack)
    (c.len.ensures ∙ sym (length-map c.index-as_slice-pack.result column_of) ∙ ap (λ (cs : List Column). length cs) pack)

pub returns-in-None : goal.returns-in-None
returns-in-None c =
    place-own c.args.start (plain_part c.args.part.now) (column_of c.args.column) _ c.args.own (sym c.pack_with.ensures ∙ c.in-None.is) c.requires.own refl
