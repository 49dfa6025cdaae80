-- How deep messages lie within one another: a message in which none lies has the depth 1 (this
-- project's own).
use Rattle.std.specs.Prelude.{ℕ, suc, max}
use Rattle.be_message.specs.Messages.{Datum, bool, int, text, point, rect, message, Fields}
use Rattle.be_message.specs.Messages.{no_fields, field, Values, no_values, value, Message}
use Rattle.be_message.specs.Messages.{all_fields}

abbrev mutual
  pub datum_depth : Datum → ℕ
  datum_depth (bool b) = 0
  datum_depth (int z) = 0
  datum_depth (text t) = 0
  datum_depth (point p) = 0
  datum_depth (rect r) = 0
  datum_depth (message what fs) = suc (fields_depth fs)

  pub fields_depth : Fields → ℕ
  fields_depth no_fields = 0
  fields_depth (field name kind vs fs) = max (values_depth vs) (fields_depth fs)

  pub values_depth : Values → ℕ
  values_depth no_values = 0
  values_depth (value d vs) = max (datum_depth d) (values_depth vs)

-- the depth of a message
abbrev pub depth_of : Message → ℕ
depth_of m = suc (fields_depth (all_fields m.fields))
