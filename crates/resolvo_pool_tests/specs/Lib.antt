pub mod Tens
