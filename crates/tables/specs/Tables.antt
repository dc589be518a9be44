-- All tables of an elaboration, and the environment among them.
use Rattle.std.specs.Prelude.{ℕ, min, Bool, List}
use Rattle.table.specs.Contents.{empty, cut}
use Rattle.bindings.specs.Bound.{nothing_bound, cleared as bindings_cleared}
use Rattle.typed.specs.Trees.{no_trees, cleared as trees_cleared}
use Rattle.records.specs.declared.env.Constant.{Constant}
use Rattle.records.specs.declared.env.Symbol.{Symbol}
use Rattle.records.specs.declared.env.Term.{Term}
use Rattle.records.specs.declared.env.«Type».{«Type» as Ty}
use Rattle.records.specs.declared.source.Source.{Source}
use Rattle.tables.specs.declared.Limits.{Limits}
use Rattle.tables.specs.declared.Tables.{Tables}

-- The environment that rules are typed in: what is handed over, and stays.
pub record Env : Type 0 where
  pub text : List ℕ
  pub types : List Ty
  pub constants : List Constant
  pub terms : List Term
  pub source : List Source
  pub symbols : List Symbol

abbrev pub env : Tables → Env
env t = record {
  text = t.text.items;
  types = t.types.items;
  constants = t.constants.items;
  terms = t.terms.items;
  source = t.source.items;
  symbols = t.symbols.items;
}

-- all tables empty, with room up to the limits asked for, and never more than the maximum
abbrev pub fresh : Limits → Bool → Tables
fresh l expand = record {
  text = empty (min l.text 1048576);
  types = empty (min l.types 4096);
  constants = empty (min l.constants 4096);
  rules = empty (min l.rules 4096);
  definitions = empty (min l.definitions 4096);
  faults = empty (min l.faults 4096);
  terms = empty (min l.terms 8192);
  source = empty (min l.source 65535);
  output = no_trees (min l.output 65535);
  symbols = empty (min l.symbols 16384);
  converters = empty (min l.converters 1024);
  bindings = nothing_bound (min l.variables 65535) (min l.scopes 1024);
  expand_internal_extractors = expand;
}

-- the environment as it is, and nothing elaborated yet
abbrev pub emptied : Tables → Tables
emptied t = record t {
  rules = cut 0 t.rules;
  definitions = cut 0 t.definitions;
  faults = cut 0 t.faults;
  output = trees_cleared t.output;
  converters = cut 0 t.converters;
  bindings = bindings_cleared t.bindings;
}
