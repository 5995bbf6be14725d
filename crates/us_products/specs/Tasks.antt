-- What `spmv` and `spmm` come to where no call of the outside fails and there is memory enough.
use Rattle.std.specs.Prelude.{ℕ, Bool, true, List, [], ◌∷◌, ◌++◌, Option}
use Rattle.us_status.specs.declared.status.Slot.TheVariants as slots
use Rattle.us_status.specs.Uses.{listing_uses, print_use, reads, stores}
use Rattle.us_status.specs.Runs.{Task}
use Rattle.us_products.specs.Factors.{Factors, factors_in, to_read}
use Rattle.us_products.specs.Products.{IsProduct, ProductMeans}

-- multiplies the input, in the last format of a chain, by an operand, which is a vector or has any number of columns
abbrev pub product_task : Bool → List ℕ → List ℕ → List ℕ → List ℕ → List ℕ → Option (List ℕ) → Task
product_task vector formats input chain operand output listing = record {
  Given = Factors;
  uses =
      reads slots.Formats formats ∷ reads slots.Input input ∷ reads slots.Operand operand ∷ stores slots.Output output
      ∷ (listing_uses listing ++ (print_use ∷ []));
  prints = true;
  reached = λ fs. to_read formats input chain fs;
  steps = λ fs. factors_in vector formats input chain operand fs;
  Makes = λ c o. IsProduct vector output listing c o;
  Means = λ fs after. ProductMeans formats input chain operand output listing fs after;
}
