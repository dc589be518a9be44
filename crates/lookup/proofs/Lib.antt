pub mod NewSymbols
