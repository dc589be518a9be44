use Rattle.std.proofs.Common.{rules, tests, Bool, refl}
use Rattle.std.proofs.lemmas.Slice.Eq.{bytes_eq-Decides}
use Rattle.std.specs.Str.{bytes_eq}
use Rattle.records.specs.Parts.{bytes}
use Rattle.records.specs.declared.env.Symbol.{Symbol}
use Rattle.tables.proofs.News.{New-any}
use Rattle.tables.specs.Tables.{env}
use Rattle.tables.proofs.Tables.is_good_symbol.Goals as goal

pub returns : goal.returns
returns c =
    let e = env c.args.self.now in
    let here = bytes e.text c.args.symbol.name in
    let inside = rw c.as_slice-text.ensures.items at (c.if-not-is_inside.ensures.0 refl) in
    let builtin = rw (c.bytes-bytes.ensures, c.as_slice-text.ensures.items) at (c.if-not-is_builtin_name.ensures.0 refl) in
    let same : Symbol → Bool = λ s. bytes_eq (bytes c.as_slice-text.result.now s.name) c.bytes-bytes.result.now in
    let new = New-any (λ s. bytes e.text s.name) same _ _ _ c.requires (λ s. rw (c.bytes-bytes.ensures, c.as_slice-text.ensures.items) (bytes_eq-Decides (bytes e.text s.name) here))
    (rw c.as_slice.ensures.items at c.iter.ensures.rest) c.any.ensures.ran (λ x b q k. search (rules, tests)) in
    ((λ t. record { inside = inside; builtin = builtin; new = new.0 t }), (λ good. new.1 good.new))
