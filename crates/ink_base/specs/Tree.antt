-- Which objects some values own.
use Rattle.std.specs.Prelude.{List, Contains}
use Rattle.ink_base.specs.declared.ident.ObjectId.{ObjectId}
use Rattle.ink_base.specs.declared.value.Value.{Value}
use Rattle.ink_base.specs.declared.value.Value.TheVariants.{Own}

-- the ownership tree of values: an object is in it where one of them owns it, or where a field of an object in it does;
-- `fields` tells the values in the fields of an object, and none of an object that isn't there
pub data InTree (fields : ObjectId → List Value) (values : List Value) : ObjectId → Type 0 where
  owned : (object : ObjectId) → Contains values (Own object) → InTree fields values object
  below : (above object : ObjectId) → InTree fields values above → Contains (fields above) (Own object) → InTree fields values object
