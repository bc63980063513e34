pub mod NewStores
